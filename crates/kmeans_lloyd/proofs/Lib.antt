-- Laws of the leaf of Lloyd's passes.
pub mod Laws
