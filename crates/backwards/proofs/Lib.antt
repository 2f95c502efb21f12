pub mod Plain
pub mod Reading
pub mod Weight
pub mod Cutting
