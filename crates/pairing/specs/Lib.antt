pub mod Meeting
pub mod Lent
pub mod Here
