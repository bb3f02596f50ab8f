-- Laws of the leaf of the centres.
pub mod Laws
