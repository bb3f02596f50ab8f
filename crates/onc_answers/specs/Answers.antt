-- What the grouping answers, as the table of refusals gives it. Definitions only.
use Rattle.std.specs.Prelude.{ℕ, ⊤, Result, Ok, Err}
use Rattle.refusals.specs.Table.{Refusal, none}
use Rattle.draws.specs.Stops.{stop_number, stop_place}
use Rattle.onc_answers.specs.declared.Grouped.{Grouped}
use Rattle.onc_answers.specs.declared.OncError.{OncError}
use Rattle.onc_answers.specs.declared.OncError.TheVariants.{InvalidRepeat, InvalidCorrelationMatrix, TooLarge, CellCount, ListLength, Stopped}

-- the table's number of a refusal, and its place, 0 where the table names none
abbrev pub error_number : OncError → ℕ
error_number InvalidRepeat = 1
error_number InvalidCorrelationMatrix = 2
error_number TooLarge = 4
error_number CellCount = 5
error_number ListLength = 6
error_number (Stopped s) = stop_number s

abbrev pub error_place : OncError → ℕ
error_place InvalidRepeat = 0
error_place InvalidCorrelationMatrix = 0
error_place TooLarge = 0
error_place CellCount = 0
error_place ListLength = 0
error_place (Stopped s) = stop_place s

-- the table's number for each answer, 0 for a grouping; its place, 0 where the table names none; the groups and the draws read, 0 for a refusal
abbrev pub number_of : Result Grouped OncError → ℕ
number_of (Ok g) = 0
number_of (Err e) = error_number e

abbrev pub place_of : Result Grouped OncError → ℕ
place_of (Ok g) = 0
place_of (Err e) = error_place e

abbrev pub groups_of : Result Grouped OncError → ℕ
groups_of (Ok g) = g.groups
groups_of (Err e) = 0

abbrev pub read_of : Result Grouped OncError → ℕ
read_of (Ok g) = g.draws
read_of (Err e) = 0

-- a refusal, or number 0 and place 0 where nothing is refused
abbrev pub refusal_of : Result ⊤ OncError → Refusal
refusal_of (Ok u) = none
refusal_of (Err e) = record { number = error_number e; place = error_place e }

-- an answer, as the table gives it
pub record Answer : Type 0 where
  pub refused : Refusal
  pub groups : ℕ
  pub read : ℕ

abbrev pub answer_of : Result Grouped OncError → Answer
answer_of a = record { refused = record { number = number_of a; place = place_of a }; groups = groups_of a; read = read_of a }

abbrev pub refusing : Refusal → Answer
refusing q = record { refused = q; groups = 0; read = 0 }
