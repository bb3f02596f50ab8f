-- Laws of the weak groups and the merged ones (Merged.antt), and from what the calls leave to what the functions promise (Laws.antt).
pub mod Merged
pub mod Laws
