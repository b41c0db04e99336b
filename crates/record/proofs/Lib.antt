pub mod BodyLaws
pub mod SplitLaws
pub mod Padding
