pub mod Outcomes
pub mod Steps
pub mod OneRecord
pub mod Theorem
pub mod Silence
pub mod Instance
