-- The checks of the grouping before its run.
pub mod Checks
