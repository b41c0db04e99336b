pub mod WrittenLaws
pub mod StreamLaws
pub mod ReadBack
