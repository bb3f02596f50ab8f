-- The worked examples that are proved of the definitions, in one table with one claim (Starred.antt); what it means that a recorded case is answered as
-- expected (Cases.antt).
pub mod Starred
pub mod Cases
