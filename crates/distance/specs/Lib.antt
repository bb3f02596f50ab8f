-- Distances of a book of correlations. Read Distance.antt for one distance, then Leaves.antt for what each call gives and leaves.
pub mod Distance
pub mod Leaves
