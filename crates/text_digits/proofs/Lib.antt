-- Laws of digits, of lines of numbers, and the proof of the claim.
pub mod Numerals
pub mod Scan
pub mod RoundTrip
pub mod Places
pub mod Lines
pub mod Claim
