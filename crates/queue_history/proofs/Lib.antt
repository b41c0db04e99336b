pub mod HistoryCalls
pub mod TurnEnds
pub mod HistoryRuns
