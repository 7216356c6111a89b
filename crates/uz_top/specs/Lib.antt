pub mod CommandValues
pub mod Commands
pub mod Words
pub mod Topics
