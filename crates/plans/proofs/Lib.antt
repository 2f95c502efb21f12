pub mod Ranking
pub mod Places
pub mod Sides
pub mod Replaced
pub mod Planned
pub mod Alike
pub mod InOrder
pub mod Determined
