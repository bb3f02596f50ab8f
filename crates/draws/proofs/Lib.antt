-- Laws of counts, of draws that are taken, and of shares.
pub mod Counting
pub mod Bounds
pub mod Claim
pub mod Taken
pub mod Bad
pub mod Shares
