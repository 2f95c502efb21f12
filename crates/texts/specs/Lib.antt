pub mod Parsing
pub mod Texts
pub mod Numbering
pub mod Writer
pub mod Outcomes
