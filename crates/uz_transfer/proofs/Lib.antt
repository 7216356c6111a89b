pub mod Sevens
pub mod StepsOf
pub mod NumberLaws
pub mod Refused
pub mod StoredPointer
pub mod LeftLemmas
