pub mod PositionWhole
pub mod Laws
pub mod Records
