-- The areas that k-means reads (Fronts.antt), and laws of k-means for its callers (Laws.antt).
pub mod Parts
pub mod Fronts
pub mod Laws
pub mod Bad
pub mod Sourced
