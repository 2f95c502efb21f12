pub mod Passing
pub mod Standing
pub mod Passed
pub mod Determined
