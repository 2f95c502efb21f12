pub mod Blanks
pub mod Terms
pub mod Pairs
pub mod Tables
pub mod Renamed
