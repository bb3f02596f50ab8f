-- Lloyd's passes: lloyd_pass/specs/Passes.antt is the definition, lloyd_table/specs/Area.antt says what is lent, and Result.antt what a call leaves.
pub mod Result
