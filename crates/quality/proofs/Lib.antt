-- Laws of picked groups and of the weak ones.
pub mod Splits
pub mod Weak
pub mod Gathered
