-- What the leaf of the labels gives and leaves (Leaves.antt), by the definitions of kmeans/specs/Clustering.antt.
pub mod Leaves
