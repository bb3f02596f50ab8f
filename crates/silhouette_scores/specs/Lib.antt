-- Rousseeuw's silhouette. Scores.antt has one item's score; Groups.antt what holds after some groups, for the proofs.
pub mod Scores
pub mod Groups
