-- From what the calls of `end_with` leave to what it ensures.
pub mod Ends
