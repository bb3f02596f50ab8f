-- Laws of the steps of a pass, and of the passes. Below.antt and Same.antt are for callers.
pub mod Turn
pub mod Below
pub mod Same
