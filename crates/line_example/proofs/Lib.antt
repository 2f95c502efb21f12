pub mod Rows
pub mod Tables
pub mod Examples
pub mod Writing
pub mod Determined
