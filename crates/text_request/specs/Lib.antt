-- Read in this order: Written (the texts of the layout), Request (what a text gives), Claim (that the two fit, both ways).
-- text_layout/specs/Layout finds what a text says, place by place; the claim says that this is right.
pub mod Request
pub mod Written
pub mod Claim
