-- Laws of the definitions of specs/, for every crate above; Counted.antt: counts as doubles.
pub mod Tests
pub mod Listed
pub mod First
pub mod Rows
pub mod Matrix
pub mod Parts
pub mod Refilled
pub mod Areas
pub mod Sums
pub mod Floats
pub mod Counted
