pub mod Lines
pub mod Pictures
pub mod Places
pub mod ScanStates
pub mod Scanning
