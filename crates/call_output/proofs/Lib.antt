pub mod Laws
pub mod Outcome
pub mod ReadBack
pub mod Shape
