pub mod LiesLaws
pub mod BytesLaws
