pub mod Lines
pub mod Defaults
pub mod Reading
pub mod Determined
