-- Laws of the four areas.
pub mod Regions
