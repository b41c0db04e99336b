pub mod Cards
pub mod Under
