pub mod States
pub mod Tails
pub mod Classes
