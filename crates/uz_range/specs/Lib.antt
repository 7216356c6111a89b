pub mod Containment
pub mod Answers
pub mod Rules
pub mod Flags
pub mod Narrowing
