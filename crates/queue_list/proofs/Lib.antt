pub mod ListLaws
pub mod BarLaws
