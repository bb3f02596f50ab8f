-- Lists given by their cells, parts of lists, and sums over index functions: what every other crate's definitions are written in.
pub mod Lists
pub mod Sums
