pub mod Common
pub mod Joining
pub mod Runs
pub mod Steps
pub mod WholeLines
