pub mod Drafts
pub mod Kept
pub mod Reading
pub mod SaidLines
pub mod Texts
