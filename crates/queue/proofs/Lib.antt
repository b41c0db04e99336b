pub mod NumberLaws
pub mod Areas
pub mod ReplyLaws
pub mod PumpTests
