pub mod Slots
pub mod Timeline
pub mod Cause
pub mod Machine
pub mod Interleaving
pub mod Laws
pub mod Shape
