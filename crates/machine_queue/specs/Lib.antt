pub mod Waiting
pub mod Pump
