pub mod Charted
pub mod Levels
