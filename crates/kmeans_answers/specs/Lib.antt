-- What a k-means leaf answers (Answers.antt), and what it gives and leaves (Leaf.antt).
pub mod Answers
pub mod Leaf
