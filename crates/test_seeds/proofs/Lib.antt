-- Laws of what is lent to a run, and of the tests of what it gives and leaves.
pub mod Laws
