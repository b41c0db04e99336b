pub mod BesideLaws
pub mod DataLaws
pub mod NextLaws
pub mod RoundLaws
