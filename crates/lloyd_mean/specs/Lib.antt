-- Groups of items and their means: Groups.antt has all of it.
pub mod Groups
