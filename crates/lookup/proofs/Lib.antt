pub mod SearchLaws
pub mod FitLaws
pub mod AnswerLaws
