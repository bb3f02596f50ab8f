-- Laws of the sizes and of the groups that changed.
pub mod Tallies
