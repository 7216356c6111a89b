pub mod History
pub mod Holding
pub mod ItemLaws
pub mod ItemLemmas
pub mod LineCuts
pub mod LineLemmas
pub mod PadLists
pub mod ReadingLaws
