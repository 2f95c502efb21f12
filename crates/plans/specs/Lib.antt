pub mod Results
pub mod Sizes
pub mod Slots
pub mod Planned
