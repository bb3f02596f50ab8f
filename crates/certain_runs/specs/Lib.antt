-- The words of the laws about every run: Certain.antt has all of it.
pub mod Certain
