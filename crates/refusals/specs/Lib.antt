-- The table of refusals: numbers, places, the order of the rows, and what a refused call leaves.
pub mod Table
