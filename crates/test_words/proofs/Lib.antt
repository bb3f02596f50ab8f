-- Laws of the words of a text, and of buffers that they are read into.
pub mod Values
pub mod Buffers
