pub mod Cases
pub mod FlatLaws
