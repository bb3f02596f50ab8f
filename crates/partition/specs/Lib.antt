-- A partition of names into groups: Partition.antt is the definition, Orders.antt how it stands in two lists, order and sizes.
pub mod Partition
pub mod Orders
