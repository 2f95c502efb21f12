pub mod Parts
pub mod Spans
pub mod Same
pub mod Literals
pub mod Determined
