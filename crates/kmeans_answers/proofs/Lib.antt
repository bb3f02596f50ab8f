-- Laws of what a k-means leaf gives and leaves, and of what its steps make together (Runs.antt).
pub mod Laws
pub mod Runs
