pub mod MarkLaws
pub mod RunLaws
pub mod SameLaws
