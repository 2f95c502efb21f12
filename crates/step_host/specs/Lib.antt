pub mod Refused
pub mod Host
