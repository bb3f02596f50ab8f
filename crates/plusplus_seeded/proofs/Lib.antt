-- Rules.antt: draws by one rule are in range and take at most two words each. Made.antt: a seeding by the draws that a generator gave makes the centres that it made.
-- OfKinds.antt: these draws are the generator's next of the kinds that the seeding takes.
pub mod Rules
pub mod Fine
pub mod Made
pub mod Supplies
pub mod Sourced
pub mod Same
pub mod OfKinds
