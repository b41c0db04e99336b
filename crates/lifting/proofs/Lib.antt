pub mod HeaderLaws
pub mod CallLaws
pub mod Cases
