pub mod AdmissionLaws
