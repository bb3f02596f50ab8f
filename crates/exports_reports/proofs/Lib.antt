-- Laws of what the calls for other languages report.
pub mod Average
pub mod Written
