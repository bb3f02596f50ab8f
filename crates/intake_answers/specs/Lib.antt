-- What the check of a book in whole millionths answers.
pub mod Answers
