-- The distance of two items (Pair.antt), and squared distances from one item to all, column by column (Columns.antt).
pub mod Pair
pub mod Columns
