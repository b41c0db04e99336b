pub mod Repeats
pub mod Keys
