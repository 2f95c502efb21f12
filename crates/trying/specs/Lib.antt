pub mod Tasks
pub mod Outcome
