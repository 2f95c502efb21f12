pub mod Sides
pub mod Determined
