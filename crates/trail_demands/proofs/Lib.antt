pub mod Replaying
pub mod Noting
pub mod Showing
pub mod Demands
