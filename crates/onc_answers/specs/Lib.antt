-- What the grouping answers.
pub mod Answers
