pub mod Places
pub mod Sharing
pub mod Searching
