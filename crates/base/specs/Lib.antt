-- The clustering of a round before any group is tried again (Base.antt); its candidates are in candidates/specs/Candidates.antt.
pub mod Base
