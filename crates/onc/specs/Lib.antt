-- The grouping of a book. Read Demands.antt first: the three demands, in their own words, over `group_of`; then Certain.antt, what is certain of every
-- book; then Seeds.antt, what holds of every call by a seed. Then Onc.antt: `group_of`, the refusals before a run, or what the run gives. docs/READING.md lists the definitions below it, in the order in which to read them.
pub mod Demands
pub mod Certain
pub mod Seeds
pub mod Onc
