-- Laws of the cases of a file of recorded texts.
pub mod Laws
