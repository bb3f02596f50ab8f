-- Doubles within whole bounds: Ranges.antt has all of it.
pub mod Ranges
