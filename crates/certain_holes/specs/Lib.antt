-- Books with holes: Claim.antt says what is certain of scores that are worked out afresh; Holes.antt has the words of the laws.
pub mod Holes
pub mod Claim
