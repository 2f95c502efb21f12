pub mod Charting
pub mod Places
pub mod Levels
pub mod Determined
