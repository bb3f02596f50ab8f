-- Laws of the table, for the calls of the crates above.
pub mod Laws
