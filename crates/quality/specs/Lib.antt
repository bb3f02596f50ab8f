-- The t-stat of each group, the weak groups, and groups picked out of a partition.
pub mod Quality
