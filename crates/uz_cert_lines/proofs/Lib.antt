pub mod ItemLaws
pub mod Lengths
pub mod LineLaws
pub mod Spans
pub mod Steps
pub mod Fields
pub mod Cutting
