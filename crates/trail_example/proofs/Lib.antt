pub mod Fitting
pub mod Finished
pub mod Retraced
pub mod Determined
