pub mod Fixed
pub mod Pattern
pub mod Puts
