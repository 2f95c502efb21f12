pub mod Taking
pub mod Tasks
