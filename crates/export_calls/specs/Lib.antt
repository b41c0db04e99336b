pub mod Feed
pub mod Ask
pub mod Wait
pub mod Say
pub mod Body
