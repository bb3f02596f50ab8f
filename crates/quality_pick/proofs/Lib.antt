-- The picked groups while they are copied.
pub mod Picking
