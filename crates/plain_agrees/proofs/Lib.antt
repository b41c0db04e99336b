pub mod Counts
pub mod Requests
pub mod Rules
pub mod Content
pub mod OneRecord
pub mod Theorem
