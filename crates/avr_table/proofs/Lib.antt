pub mod Apart
pub mod PatternLemmas
pub mod RowLemmas
