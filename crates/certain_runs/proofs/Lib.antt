-- The best candidate of a round (Best.antt), the choice after a re-clustering (Choice.antt), the rounds of a run (Runs.antt).
pub mod Best
pub mod Choice
pub mod Runs
