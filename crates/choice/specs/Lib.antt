-- Replaces.antt has the choice between two candidates, Choice.antt that between the old partition and the new one.
pub mod Replaces
pub mod Choice
