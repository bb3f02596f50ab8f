-- Laws of the checks.
pub mod Laws
