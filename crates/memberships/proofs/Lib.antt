pub mod Decisions
pub mod Worded
pub mod Determined
