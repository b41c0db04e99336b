pub mod CallLaws
pub mod VeryPart
