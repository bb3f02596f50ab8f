-- The choice (Better.antt), and the scores of merged groups (Laws.antt).
pub mod Better
pub mod Laws
