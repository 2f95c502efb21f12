pub mod Shares
pub mod Ranges
pub mod Standing
pub mod Spans
pub mod Recording
pub mod Placing
pub mod Noting
pub mod Determined
