-- What the lists of a call must hold afterwards (Compared.antt).
pub mod Compared
