pub mod Moves
pub mod Joint
