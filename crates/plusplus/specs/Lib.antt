-- The centres of k-means++: the definition, and what `seed` asks and gives (Seeding.antt); which draws are out of range (Ranges.antt). One centre more is in plusplus_trials/specs/Trials.antt, and one trial of it in plusplus_pick/specs/Potentials.antt.
pub mod Seeding
pub mod Ranges
