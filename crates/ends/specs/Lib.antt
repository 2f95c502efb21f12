pub mod Measure
pub mod Unlimited
pub mod Last
pub mod Worked
