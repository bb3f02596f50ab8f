-- Laws of doubles within whole bounds: a rounded fraction (Rounding.antt), each operation (Operations.antt), sums (Totals.antt),
-- the difference of two over the larger (Ratios.antt).
pub mod Rounding
pub mod Operations
pub mod Totals
pub mod Ratios
