pub mod Bytes
pub mod Pieces
