-- Layout finds what a text says, place by place; the claim of text_request/specs/Claim says that this is right.
pub mod Layout
