-- Laws of a call; Demands.antt has the three demands, Certain.antt what is certain of every book, Seeds.antt what holds of every call by a seed.
pub mod Calls
pub mod Demands
pub mod TwoNames
pub mod Groupings
pub mod Rounds
pub mod Only
pub mod Reading
pub mod Shapes
pub mod Certain
pub mod Seeds
