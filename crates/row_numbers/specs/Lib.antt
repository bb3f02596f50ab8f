-- The one translation of row numbers.
pub mod Rows
