pub mod Lines
pub mod Laws
pub mod Named
pub mod Reading
pub mod Others
pub mod Determined
