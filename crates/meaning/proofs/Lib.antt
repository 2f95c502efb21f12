pub mod Complete
pub mod Shuffles
pub mod Same
pub mod Alike
pub mod Values
pub mod Plain
pub mod Deciding
