-- What holds of whole runs. `Whole` proves the statement of Isolation from `Theorem` and `SecondRun`; the files
-- before these lead there.
pub mod Receiver
pub mod RunParts
pub mod HistoryOnMachine
