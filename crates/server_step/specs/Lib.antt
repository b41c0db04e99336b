pub mod Answer
pub mod Outcome
pub mod Check
