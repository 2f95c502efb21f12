pub mod Orders
pub mod Lent
pub mod Out
pub mod Notes
pub mod Replays
pub mod Shows
pub mod Determined
