-- A recorded run: Cases.antt has how a case stands in the text, what is lent to the call, and when it answers and leaves what is recorded.
pub mod Cases
