-- The text of a grouping, by the label of each name.
pub mod Written
