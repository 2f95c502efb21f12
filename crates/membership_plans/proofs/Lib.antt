pub mod Parts
pub mod Plain
pub mod Eliminating
pub mod Reordering
pub mod Dispatch
pub mod Determined
