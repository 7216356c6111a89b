pub mod DebuggerLemmas
pub mod CheckpointLemmas
pub mod MarkLemmas
pub mod RunLemmas
pub mod ScriptLaws
pub mod ScriptLemmas
pub mod SessionLaws
pub mod TextLemmas
