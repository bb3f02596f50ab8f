-- Laws of the text that is written: Texts has the lengths, Front what the two calls leave, Examples two texts.
pub mod Lines
pub mod Texts
pub mod Front
pub mod Examples
