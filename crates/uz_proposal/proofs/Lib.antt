pub mod SourceLemmas
pub mod GlanceLemmas
pub mod LineLemmas
pub mod PeriodLemmas
pub mod ReachLemmas
pub mod VisitLemmas
pub mod WindowLemmas
