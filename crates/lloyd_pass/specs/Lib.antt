-- Lloyd's passes: the definition (Passes.antt).
pub mod Passes
