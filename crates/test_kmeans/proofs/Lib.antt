-- Laws of what is lent to a leaf, and read for it.
pub mod Laws
