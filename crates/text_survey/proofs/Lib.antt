pub mod Scan
pub mod Determined
