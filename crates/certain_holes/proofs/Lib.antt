-- Laws of books with holes, from below: places with a NaN (Choices.antt), distances (Distances.antt), pair distances (Pairs.antt), a score (Scores.antt), the
-- scores of a round (Rounds.antt), t-stats (Stats.antt), Lloyd's passes (Passes.antt), the labels of k-means (Labelled.antt), the claim (Claim.antt).
pub mod Choices
pub mod Distances
pub mod Pairs
pub mod Scores
pub mod Rounds
pub mod Stats
pub mod Passes
pub mod Labelled
pub mod Claim
