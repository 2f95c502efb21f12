pub mod Times
pub mod Added
pub mod Own
pub mod Determined
