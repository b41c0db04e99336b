pub mod Lift
pub mod Call
pub mod Answer
pub mod Ways
