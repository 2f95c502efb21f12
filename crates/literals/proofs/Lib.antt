pub mod Seen
pub mod Walks
pub mod Determined
