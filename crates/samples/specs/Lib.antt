pub mod Bodies
pub mod Laid
pub mod Samples
