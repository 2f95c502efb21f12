pub mod Ranks
pub mod First
pub mod Applied
pub mod Clashed
pub mod Pass
pub mod Counted
pub mod Finding
pub mod Determined
