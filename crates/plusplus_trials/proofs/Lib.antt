-- Laws of the search for one centre more.
pub mod Centring
pub mod Bad
pub mod Agree
pub mod Totals
