-- The one claim over the table (Claim.antt); laws of what is lent to a leaf, and of the tests of what it gives and leaves (Laws.antt).
pub mod Claim
pub mod Laws
