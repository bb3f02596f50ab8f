-- The groups that a re-clustering makes: Merging.antt is the definition, Steps.antt what the functions ask and leave.
pub mod Merging
pub mod Steps
