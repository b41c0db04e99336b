pub mod CardFloat
pub mod CardsLaws
pub mod Cases
pub mod ReadBack
