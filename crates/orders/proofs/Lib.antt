pub mod Orders
pub mod Rows
pub mod Renamed
pub mod Determined
