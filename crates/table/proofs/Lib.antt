pub mod Answers
pub mod Ranges
pub mod OpeningLaws
