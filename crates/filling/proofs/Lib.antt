pub mod Terms
pub mod Lookups
pub mod Filled
pub mod Writes
pub mod Values
pub mod Becomes
pub mod Given
pub mod Determined
