pub mod ExitStatus
