pub mod Trail
pub mod Replay
pub mod Calls
