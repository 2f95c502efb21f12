pub mod Tokens
pub mod Elements
pub mod Wholes
pub mod Determined
