pub mod Plain
pub mod Forms
pub mod Readings
pub mod Determined
