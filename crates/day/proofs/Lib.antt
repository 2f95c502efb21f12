pub mod Fitting
pub mod Headers
pub mod Cuts
pub mod Ends
pub mod Rooms
pub mod Turns
pub mod Days
pub mod Determined
