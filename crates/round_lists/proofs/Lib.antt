-- From what the calls leave to what the functions ensure.
pub mod Storing
