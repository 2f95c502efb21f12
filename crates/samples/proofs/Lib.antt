pub mod Bodies
pub mod Laid
pub mod Sampling
pub mod Standing
pub mod Determined
