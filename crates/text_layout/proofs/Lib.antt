-- Laws of the layout, and of what one that is found says.
pub mod Fields
pub mod Found
