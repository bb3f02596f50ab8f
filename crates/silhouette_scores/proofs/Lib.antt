-- Laws of the groups' sums and means.
pub mod Least
pub mod Renumbered
pub mod Members
pub mod Turns
