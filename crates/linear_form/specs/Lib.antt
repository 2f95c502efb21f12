pub mod Charted
pub mod Rows
pub mod Walks
