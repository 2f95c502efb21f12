pub mod Scans
pub mod Determined
