pub mod Parts
pub mod Still
pub mod Determined
