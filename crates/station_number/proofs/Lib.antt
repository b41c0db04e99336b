pub mod Cases
pub mod FixedLaws
pub mod Parts
pub mod PatternLaws
pub mod PutsLaws
