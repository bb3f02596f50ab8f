-- What the grouping called from C returns, in `answer`, and leaves in its lists.
pub mod Grouping
