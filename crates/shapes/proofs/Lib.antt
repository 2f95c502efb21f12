pub mod Scanning
pub mod Actions
pub mod Loop
pub mod Determined
