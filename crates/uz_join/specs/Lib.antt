pub mod Joined
pub mod Replacing
pub mod Unjoined
pub mod Points
pub mod Same
pub mod Coverage
pub mod Along
