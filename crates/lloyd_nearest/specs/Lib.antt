-- The nearest and the farthest of some distances: Nearest.antt has all of it.
pub mod Nearest
