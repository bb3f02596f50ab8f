-- Laws of the distances and of the checks, for this crate's functions and the crates above.
pub mod Laws
