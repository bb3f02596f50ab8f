-- Laws of the working list and of the checks.
pub mod Handed
