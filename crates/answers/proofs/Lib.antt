pub mod Rows
pub mod Adding
pub mod Tallies
pub mod Determined
