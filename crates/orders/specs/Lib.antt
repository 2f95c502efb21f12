pub mod Agreeing
pub mod Orders
