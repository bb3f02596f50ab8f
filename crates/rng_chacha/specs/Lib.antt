-- The ChaCha block function (ChaCha.antt), its published vectors (Vectors.antt), and four blocks in one list (Four.antt).
pub mod ChaCha
pub mod Vectors
pub mod Four
