pub mod FitLaws
pub mod SlotLaws
