-- What a call that writes a text answers.
pub mod Answers
