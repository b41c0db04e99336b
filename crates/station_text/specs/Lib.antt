pub mod Line
pub mod Sized
pub mod Words
