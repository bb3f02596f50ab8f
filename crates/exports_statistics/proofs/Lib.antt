-- Laws of what the check of a book gives and leaves.
pub mod Book
