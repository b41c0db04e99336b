pub mod Event
pub mod Codes
pub mod Refusal
pub mod Shape
pub mod Step
pub mod Decision
pub mod Calls
pub mod Answer
