pub mod Texts
pub mod Parsed
