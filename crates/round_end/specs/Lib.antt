-- The end of a round: Steps.antt says what its functions ask and leave. The choice itself is `better_of`, improve/specs/Improve.antt.
pub mod Steps
