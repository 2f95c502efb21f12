pub mod Tables
pub mod Law
pub mod Leaves
pub mod Whole
pub mod Determined
