-- Read Answer: the text of a grouping and of a refusal, and what the two calls answer and leave. text_writing/specs/Stores is what the inner functions promise.
pub mod Answer
