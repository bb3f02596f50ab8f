-- From what the calls of `cluster_kmeans_top` leave to what it ensures.
pub mod Rounding
