pub mod PackedLaws
pub mod HeldLaws
pub mod ChangeLaws
pub mod RunLaws
