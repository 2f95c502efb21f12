pub mod Naming
pub mod Leaves
