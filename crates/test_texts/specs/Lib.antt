-- Read Texts: the cases of a file of recorded texts, and whether the grouping program prints for a text what is recorded, by text_program/specs/Program.antt.
pub mod Texts
