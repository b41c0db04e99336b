pub mod PositionLaws
pub mod PositionSplit
