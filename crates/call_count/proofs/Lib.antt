pub mod ActiveLaws
