-- Draws: Counts.antt has how many a round takes, Claim.antt says them in the words of the demand, Bounds.antt by the bounds of the trials, Draws.antt how they
-- are taken from a list and what a share is, Stops.antt what can end a run.
pub mod Counts
pub mod Claim
pub mod Bounds
pub mod Draws
pub mod Stops
