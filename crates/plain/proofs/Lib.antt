-- The plain receiver's definition, what its code promises, and laws.
pub mod StoreLaws
pub mod TableLaws
pub mod RuleLaws
pub mod RecordLaws
pub mod Cases
