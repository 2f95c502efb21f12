pub mod Along
pub mod Accepted
pub mod Replayed
pub mod Trailed
pub mod Refused
pub mod Told
pub mod Worked
