pub mod Going
pub mod QueueCounts
