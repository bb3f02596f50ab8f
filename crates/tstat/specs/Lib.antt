-- The t-statistic and the plain mean of a list of scores.
pub mod Tstat
