pub mod Told
pub mod Ready
pub mod Rooms
