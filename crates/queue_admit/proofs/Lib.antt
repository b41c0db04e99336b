pub mod AdmissionLaws
pub mod BarredLaws
pub mod StreamLaws
