pub mod Marks
pub mod Following
pub mod Chains
pub mod Symbols
pub mod Walking
pub mod Sweeping
pub mod Judging
