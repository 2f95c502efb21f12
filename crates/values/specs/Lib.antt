pub mod Lines
pub mod Binding
pub mod Spelling
pub mod Values
