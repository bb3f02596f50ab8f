-- What the calls for other languages report: Average.antt for a statistic, Book.antt for the check of a book.
pub mod Average
pub mod Book
