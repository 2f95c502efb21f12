pub mod Fitting
pub mod Tries
pub mod Places
pub mod Determined
