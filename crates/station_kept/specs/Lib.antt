pub mod Kept
pub mod Part
