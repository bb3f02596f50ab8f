-- What it means that a recorded case is answered as recorded (Cases.antt), by test_words/specs/Words.antt, test_compared/specs/Compared.antt and kmeans_labels/specs/Leaves.antt.
pub mod Cases
