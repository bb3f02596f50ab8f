-- Laws of the sums, and that a squared distance is the same either way.
pub mod Flip
pub mod Steps
