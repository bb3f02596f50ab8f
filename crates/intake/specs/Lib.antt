-- The check of a book in whole millionths. Read Claim.antt first: what a proper book is, and what an answer says of the cells. Then Intake.antt: the answer
-- by its definition, over the table of refusals (refusals/specs/Table.antt) and what each answer
-- says of it (intake_answers/specs/Answers.antt).
pub mod Claim
pub mod Intake
