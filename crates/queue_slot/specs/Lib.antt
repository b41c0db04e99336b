pub mod Atoms
pub mod Finishing
pub mod Wait
