pub mod Reporting
pub mod Settling
pub mod Showing
pub mod Telling
pub mod Promises
pub mod Determined
