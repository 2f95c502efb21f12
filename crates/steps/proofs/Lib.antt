pub mod Taken
pub mod Asked
pub mod Made
pub mod Determined
