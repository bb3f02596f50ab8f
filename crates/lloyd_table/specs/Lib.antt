-- The list that Lloyd's passes work in: what is lent, and what the step of one group leaves (Area.antt).
pub mod Area
