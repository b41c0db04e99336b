pub mod Turns
pub mod Idle
pub mod SecondRun
pub mod LongSays
pub mod SecondRunExists
