-- Laws of what the harness gets.
pub mod Reported
pub mod Next
