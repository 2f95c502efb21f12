pub mod Making
pub mod OfOne
pub mod Determined
