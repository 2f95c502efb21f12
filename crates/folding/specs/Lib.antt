pub mod Twice
pub mod Chains
