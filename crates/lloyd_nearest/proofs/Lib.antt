-- Laws of the nearest and the farthest.
pub mod Steps
