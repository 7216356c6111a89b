pub mod Live
pub mod Packed
pub mod Held
pub mod Printed
pub mod Changes
pub mod Run
