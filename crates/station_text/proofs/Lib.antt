pub mod Cases
pub mod LineLaws
