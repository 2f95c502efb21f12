pub mod AnyOrder
pub mod Marks
pub mod Leaves
pub mod Places
pub mod Gathering
