pub mod Pairs
pub mod Fitting
pub mod Determined
