-- Squared distances. One squared distance of a book is in distance_columns/specs/Pair.antt; Leaves.antt says what each call gives.
pub mod Leaves
