-- What it means that a recorded run is answered as recorded (Runs.antt), by test_run_cases/specs/Cases.antt, test_words/specs/Words.antt
-- and onc/specs/Onc.antt.
pub mod Runs
