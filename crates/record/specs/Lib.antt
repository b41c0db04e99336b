pub mod Names
pub mod Header
pub mod Body
pub mod Split
