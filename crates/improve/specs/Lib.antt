-- The partition with its weak groups clustered again: Improve.antt is the definition, Steps.antt what the functions ask and leave.
pub mod Improve
pub mod Steps
