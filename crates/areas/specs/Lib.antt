-- The areas of a round's list: Pairs.antt says what the first four hold, Regions.antt what holds after each step. The fifth is in
-- lloyd_table/specs/Area.antt; docs/READING.md says who writes and reads each.
pub mod Pairs
pub mod Regions
