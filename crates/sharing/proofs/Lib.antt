pub mod Walks
pub mod Shared
pub mod Determined
