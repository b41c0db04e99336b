pub mod Cases
pub mod CallCases
pub mod RefusalRows
pub mod RunTests
pub mod TwoRuns
pub mod TwoShuffles
pub mod Premises
pub mod HistoryCase
