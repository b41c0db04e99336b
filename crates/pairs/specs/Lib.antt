pub mod Length
pub mod Pair
