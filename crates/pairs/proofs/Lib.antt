pub mod PairLaws
pub mod ReadBack
