-- Laws of the patterns of NaNs, and the proof of the claim.
pub mod Patterns
pub mod Claim
