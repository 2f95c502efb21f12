pub mod Blocks
pub mod Pushing
pub mod Determined
