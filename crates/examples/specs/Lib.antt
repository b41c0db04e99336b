pub mod Row
pub mod Fed
