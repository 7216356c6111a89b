pub mod Pieces
pub mod Source
pub mod Waits
