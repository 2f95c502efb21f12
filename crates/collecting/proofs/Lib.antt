pub mod Zeros
pub mod Names
pub mod Taking
pub mod Once
pub mod Determined
