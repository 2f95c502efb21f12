pub mod Reach
pub mod Spots
