-- Laws of bytes that are stored one after another, and of counting digits.
pub mod Stores
pub mod Counting
