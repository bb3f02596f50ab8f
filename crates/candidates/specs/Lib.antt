-- The candidates of a round and the best of them: Candidates.antt is the definition, Ranges.antt which draws are out of range,
-- Kinds.antt which kind each is taken as, Made.antt the draws that a generator gives along them, Steps.antt what the functions ask and leave.
pub mod Candidates
pub mod Ranges
pub mod Kinds
pub mod Steps
pub mod Made
