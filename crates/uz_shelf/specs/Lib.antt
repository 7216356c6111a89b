pub mod Faults
pub mod Files
pub mod Text
pub mod Planned
pub mod InMemory
pub mod SinkInMemory
pub mod RealOutput
pub mod RealFiles
