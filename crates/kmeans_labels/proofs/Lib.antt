-- Laws of the leaf of the labels.
pub mod Laws
