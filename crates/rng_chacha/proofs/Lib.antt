-- Rounds.antt: a round by its quarter rounds. Lanes.antt: four states side by side, state by state. Fours.antt: four blocks in one list, block by block.
-- Vectors.antt: the published vectors, computed.
pub mod Rounds
pub mod Lanes
pub mod Fours
pub mod Vectors
