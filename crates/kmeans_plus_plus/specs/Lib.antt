-- What the leaf of the centres gives and leaves (Leaves.antt), by the definition of plusplus/specs/Seeding.antt.
pub mod Leaves
