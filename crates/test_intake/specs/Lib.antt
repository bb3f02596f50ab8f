-- What it means that a case of the check of a book is answered as expected (Cases.antt), by test_words/specs/Words.antt, test_compared/specs/Compared.antt and intake/specs/Intake.antt.
pub mod Cases
