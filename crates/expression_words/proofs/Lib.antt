pub mod Laying
pub mod Rows
pub mod Parts
pub mod Steps
pub mod Determined
