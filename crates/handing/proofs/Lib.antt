pub mod Handed
pub mod Determined
