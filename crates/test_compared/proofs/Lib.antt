-- Laws of the zero fronts.
pub mod Wiped
