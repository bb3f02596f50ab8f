-- Distances between the rows of a matrix. One pair is in distance_columns/specs/Pair.antt; Leaves.antt says what each call gives and leaves.
pub mod Leaves
