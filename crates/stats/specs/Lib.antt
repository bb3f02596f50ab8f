-- The mean, the variance and the deviation of a list of values. Read Average.antt; sums are in lists/specs/Sums.antt, the root in sqrt/specs/Root.antt.
pub mod Average
