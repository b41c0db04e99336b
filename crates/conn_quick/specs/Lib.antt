pub mod Quick
pub mod Passes
