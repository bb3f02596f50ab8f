-- What a draw picks, its trial, and the better of two (Potentials.antt).
pub mod Potentials
