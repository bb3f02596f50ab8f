-- The centres of k-means++ by the words of a generator: the draws that a seeding takes, and the centres (Seeded.antt); what the functions leave (Steps.antt); draws from a list or from a generator (Sources.antt);
-- the kinds of draws, for the claims about a seed (Kinds.antt).
pub mod Seeded
pub mod Steps
pub mod Sources
pub mod Kinds
