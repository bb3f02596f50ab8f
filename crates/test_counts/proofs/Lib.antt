-- Laws of counting the cases of a text.
pub mod Counting
