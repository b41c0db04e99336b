pub mod Correction
pub mod FloatSize
