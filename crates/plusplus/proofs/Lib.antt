-- Laws of a seeding.
pub mod Turns
pub mod Seeds
pub mod Same
pub mod Bad
pub mod Examples
