pub mod Framing
pub mod Determined
