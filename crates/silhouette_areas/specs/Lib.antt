-- The scores of the items of a round (Scoring.antt); one item's score is in silhouette_scores/specs/Scores.antt.
pub mod Scoring
