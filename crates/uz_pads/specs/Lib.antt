pub mod ItemTexts
pub mod Lines
pub mod Pads
pub mod WhyNames
