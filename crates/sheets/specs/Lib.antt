pub mod Layout
pub mod Day
