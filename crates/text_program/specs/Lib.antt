-- Read Program: what the grouping program prints for the text that it reads. Claim says the same without the reading.
pub mod Program
pub mod Claim
