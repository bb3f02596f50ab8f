-- Laws of the passes, from one to the next.
pub mod Rounds
