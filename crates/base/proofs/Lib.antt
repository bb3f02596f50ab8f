-- From the best candidate to the base of a round.
pub mod Laws
pub mod Scored
