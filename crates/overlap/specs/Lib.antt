pub mod Table
pub mod Lengths
