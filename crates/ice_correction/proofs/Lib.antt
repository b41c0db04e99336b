pub mod Rows
pub mod CorrectionLaws
pub mod Cases
