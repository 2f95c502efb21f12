pub mod Standing
pub mod Rows
pub mod Beside
pub mod Words
pub mod Determined
