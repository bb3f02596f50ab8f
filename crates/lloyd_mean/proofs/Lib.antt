-- Laws of groups and their means.
pub mod Means
pub mod Members
pub mod Single
