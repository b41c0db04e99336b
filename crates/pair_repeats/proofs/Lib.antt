pub mod KeysLaws
pub mod RepeatsLaws
