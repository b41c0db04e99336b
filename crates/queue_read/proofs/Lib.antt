pub mod NextRuns
pub mod ReadLaws
