-- Laws of the scores of a round and of its areas.
pub mod Laws
