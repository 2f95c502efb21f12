pub mod Shapes
pub mod Actions
pub mod Scanned
