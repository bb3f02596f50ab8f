-- Laws of the list that the passes work in, and of the step of one group.
pub mod Rows
pub mod Steps
