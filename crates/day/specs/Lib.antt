pub mod Leaves
pub mod Written
