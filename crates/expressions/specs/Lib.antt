pub mod Passing
pub mod Standing
