pub mod Tabling
pub mod Sheets
pub mod Determined
