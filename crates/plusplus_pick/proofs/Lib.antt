-- Laws of what a draw picks.
pub mod Picks
