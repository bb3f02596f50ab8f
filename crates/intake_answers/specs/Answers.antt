-- What each answer of the check says: a number and a place of the table. Definitions only.
use Rattle.std.specs.Prelude.{ℕ, Result, Ok, Err}
use Rattle.refusals.specs.Table.{Refusal}
use Rattle.intake_answers.specs.declared.IntakeError.{IntakeError}
use Rattle.intake_answers.specs.declared.IntakeError.TheVariants.{InvalidCorrelationMatrix, TooLarge, CellCount, Range, Diagonal, Mirror}

-- a proper book, or why it is none
abbrev pub Intake : Type 0
Intake = Result (Unit {0}) IntakeError

-- the table's number for each answer, 0 for a proper book; and the place of the cell, row times n plus column, 0 where no cell is named
abbrev pub number_of : Intake → ℕ
number_of (Ok done) = 0
number_of (Err InvalidCorrelationMatrix) = 2
number_of (Err TooLarge) = 4
number_of (Err CellCount) = 5
number_of (Err (Range t)) = 21
number_of (Err (Diagonal t)) = 22
number_of (Err (Mirror t)) = 23

abbrev pub place_of : Intake → ℕ
place_of (Ok done) = 0
place_of (Err InvalidCorrelationMatrix) = 0
place_of (Err TooLarge) = 0
place_of (Err CellCount) = 0
place_of (Err (Range t)) = t
place_of (Err (Diagonal t)) = t
place_of (Err (Mirror t)) = t

abbrev pub refusal_of : Intake → Refusal
refusal_of a = record { number = number_of a; place = place_of a }
