pub mod Length
pub mod Pattern
pub mod Places
pub mod RowFacts
pub mod Rows
