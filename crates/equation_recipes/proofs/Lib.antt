pub mod Plain
pub mod Eliminating
pub mod Unordered
pub mod Joins
pub mod Cuts
pub mod Cutting
pub mod Dispatch
