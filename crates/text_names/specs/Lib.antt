pub mod Shelves
pub mod Words
