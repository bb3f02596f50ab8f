-- Whole.antt: tests on signed numbers. Faults.antt and Shape.antt: the laws that the functions cite. Claim.antt: `intake_claim`, of every
-- book.
pub mod Whole
pub mod Faults
pub mod Shape
pub mod Claim
