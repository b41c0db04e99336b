pub mod ServingLaws
pub mod CheckLaws
