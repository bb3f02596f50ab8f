-- The count of the cases of a text (Counting.antt).
pub mod Counting
