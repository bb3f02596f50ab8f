-- Laws of groups.
pub mod Collected
pub mod Totals
pub mod Members
pub mod Groups
pub mod Cuts
pub mod Labels
pub mod Ranks
pub mod Filling
pub mod Moved
