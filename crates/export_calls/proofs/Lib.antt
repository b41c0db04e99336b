pub mod Known
pub mod FeedLaws
pub mod WriteLaws
pub mod HandedOn
