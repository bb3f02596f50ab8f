-- The words of a text, and what they say (Words.antt).
pub mod Words
