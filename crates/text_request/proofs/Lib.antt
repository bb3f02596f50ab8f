-- Laws of what a text gives, and the claim of specs/Claim.
pub mod Gives
pub mod Complete
pub mod Sound
pub mod Lengths
pub mod Claim
pub mod Examples
