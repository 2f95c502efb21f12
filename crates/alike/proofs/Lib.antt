pub mod Agreeing
pub mod Taking
pub mod Finding
pub mod Comparing
pub mod Deciding
pub mod Determined
