pub mod Cases
pub mod LoopLaws
pub mod NumberLaws
pub mod FlatLaws
