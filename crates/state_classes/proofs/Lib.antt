pub mod Spots
pub mod Meanings
pub mod Peeling
pub mod Opening
pub mod Comparing
pub mod Classing
pub mod Determined
