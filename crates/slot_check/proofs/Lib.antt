pub mod QuickLaws
pub mod QuickRow
pub mod TakenLaws
