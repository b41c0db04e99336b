pub mod WordLaws
pub mod WordOps
