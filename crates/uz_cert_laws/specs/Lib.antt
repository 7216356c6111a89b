pub mod LineWords
pub mod Spells
