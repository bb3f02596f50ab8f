-- Laws of what the grouping called from C gives and leaves.
pub mod Grouping
