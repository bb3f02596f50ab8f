-- Groups whose members changed.
pub mod Members
