-- Read Digits (digits, numbers as they are read and written, and what ends a field), Lines (a line of numbers)
-- and Claim (what may be believed of a number that is written).
pub mod Digits
pub mod Lines
pub mod Claim
