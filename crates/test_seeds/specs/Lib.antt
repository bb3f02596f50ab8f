-- What it means that a recorded run by a seed is answered as recorded (Seeds.antt), by test_run_cases/specs/Cases.antt, test_words/specs/Words.antt
-- and onc/specs/Onc.antt.
pub mod Seeds
