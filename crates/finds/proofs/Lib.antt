pub mod Walks
pub mod Firsts
pub mod Stops
pub mod Searches
pub mod Widths
pub mod Determined
