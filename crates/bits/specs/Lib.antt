-- The double of a pattern, and the pattern of a double (Bits); what may be believed of the two (Claim).
pub mod Bits
pub mod Claim
