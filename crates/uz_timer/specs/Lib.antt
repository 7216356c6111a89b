pub mod Counts
pub mod OneClock
