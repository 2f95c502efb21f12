pub mod Flat
pub mod Filling
