pub mod Laid
pub mod Pieces
pub mod Standing
pub mod Numbers
pub mod Writes
