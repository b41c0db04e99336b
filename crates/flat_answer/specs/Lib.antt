pub mod ReadAnswers
pub mod WriteAnswers
