pub mod Variables
pub mod Standing
pub mod Places
pub mod Looks
pub mod Views
