-- What the leaf of Lloyd's passes gives and leaves (Leaves.antt), by the definition of lloyd_pass/specs/Passes.antt.
pub mod Leaves
