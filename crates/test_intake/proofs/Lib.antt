-- Laws of the cases of a text, of signed words, and of a book that is made in place.
pub mod Laws
