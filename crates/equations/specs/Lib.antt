pub mod Rank
pub mod Ranked
