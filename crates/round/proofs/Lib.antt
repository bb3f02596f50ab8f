-- Laws of the rounds: Runs.antt, Spends.antt and Made.antt of the definition, OfKinds.antt of the kinds of a generator's draws, the others of the functions; Sourced.antt is of the
-- draws that they take from a source.
pub mod Runs
pub mod Spends
pub mod Standing
pub mod Openings
pub mod Made
pub mod OfKinds
pub mod Sourced
