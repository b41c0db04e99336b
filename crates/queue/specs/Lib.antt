pub mod Numbers
pub mod Calls
pub mod Answer
pub mod Run
pub mod Isolation
pub mod Fairness
pub mod NothingLost
