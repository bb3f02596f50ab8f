-- The rounds of a run: Round.antt is the definition, Steps.antt what the functions of the start of a round ask and leave.
pub mod Round
pub mod Steps
pub mod Made
