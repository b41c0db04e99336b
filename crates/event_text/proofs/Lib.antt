pub mod LineLaws
pub mod DraftLaws
pub mod Longest
pub mod Cases
