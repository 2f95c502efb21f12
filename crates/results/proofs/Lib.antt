pub mod Stores
pub mod Marking
pub mod Replaced
pub mod Made
pub mod Results
pub mod Planned
pub mod Determined
