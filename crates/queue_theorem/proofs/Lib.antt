pub mod Theorem
pub mod RunAccounts
pub mod NothingLost
pub mod NextSlot
pub mod Fair
