pub mod ApartLemmas
pub mod CommandLemmas
pub mod TellingLemmas
