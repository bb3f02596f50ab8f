-- A list of three numbers that is written.
pub mod Written
