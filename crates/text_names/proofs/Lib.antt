pub mod Letters
pub mod Shelving
pub mod Words
pub mod Determined
