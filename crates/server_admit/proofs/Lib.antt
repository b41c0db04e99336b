pub mod AdmissionLaws
pub mod Room
