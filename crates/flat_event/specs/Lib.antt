pub mod Kinds
pub mod Flat
