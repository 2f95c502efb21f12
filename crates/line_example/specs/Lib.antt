pub mod Rows
pub mod Shown
pub mod Fillings
