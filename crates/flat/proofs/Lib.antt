pub mod Sides
pub mod Shapes
pub mod Filling
