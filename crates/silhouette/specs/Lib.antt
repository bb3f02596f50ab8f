-- What `silhouette_from_pairwise` gives and leaves (Leaf.antt). One item's score is in silhouette_scores/specs/Scores.antt.
pub mod Leaf
