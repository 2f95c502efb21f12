pub mod Sizing
pub mod Taken
pub mod Numbered
pub mod One
