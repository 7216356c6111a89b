pub mod Clocks
pub mod Joining
pub mod Lengths
