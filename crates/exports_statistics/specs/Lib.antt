-- The draws of a round, for every number of names. What the statistics and the check of a book give and leave is in exports_reports/specs.
pub mod Draws
