-- What the answers of the calls say of the definition (Answers.antt), laws of the candidates and of the best of them (Laws.antt), the
-- steps of the functions (Turns.antt), what they take from a source (Sourced.antt), of which kinds a generator's draws are (OfKinds.antt),
-- and that a draw that ends the search is out of range (Bad.antt).
pub mod Answers
pub mod Laws
pub mod Turns
pub mod Bad
pub mod Sourced
pub mod OfKinds
