pub mod ListLaws
pub mod ReadBackList
