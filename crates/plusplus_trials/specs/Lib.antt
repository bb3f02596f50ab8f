-- One centre more: its trials, one for each draw, and the best of them (Trials.antt).
pub mod Trials
