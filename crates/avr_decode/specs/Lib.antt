pub mod Decoded
pub mod Gathered
