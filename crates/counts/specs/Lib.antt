pub mod Counts
pub mod Tables
