pub mod Operations
pub mod WholeRuns
pub mod AnyCutting
pub mod Isolation
