-- What the functions that write to a list promise.
pub mod Stores
