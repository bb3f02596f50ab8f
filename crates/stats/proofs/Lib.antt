-- Laws of a program's tests on a list and on a double, and of averages.
pub mod All
pub mod Averages
pub mod Floats
