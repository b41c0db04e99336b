pub mod FinishLaws
pub mod StraightLaws
