pub mod Decisions
pub mod Names
pub mod Looked
pub mod Nodes
pub mod Variables
pub mod Leading
pub mod Determined
