-- The table's number, place and the draws read, for each answer of a k-means leaf. Definitions only.
use Rattle.std.specs.Prelude.{ℕ, Result, Ok, Err}
use Rattle.refusals.specs.Table.{Refusal}
use Rattle.refusals.specs.declared.Cause.{Cause}
use Rattle.refusals.specs.declared.Cause.TheVariants as cause
use Rattle.draws.specs.Stops.{stop_number, stop_place}
use Rattle.kmeans_answers.specs.declared.KmeansError.{KmeansError}
use Rattle.kmeans_answers.specs.declared.KmeansError.TheVariants.{InvalidCorrelationMatrix, TooLarge, CellCount, ListLength, GroupCount, CentreOutOfRange, Stopped}

-- a refusal of the common checks, as the leaf gives it
abbrev pub error_of : Cause → KmeansError
error_of cause.InvalidCorrelationMatrix = InvalidCorrelationMatrix
error_of cause.TooLarge = TooLarge
error_of cause.CellCount = CellCount
error_of cause.ListLength = ListLength
error_of (cause.OutOfRange p) = CentreOutOfRange p

-- the table's number of a refusal, and its place, 0 where the table names none
abbrev pub error_number : KmeansError → ℕ
error_number InvalidCorrelationMatrix = 2
error_number TooLarge = 4
error_number CellCount = 5
error_number ListLength = 6
error_number GroupCount = 29
error_number (CentreOutOfRange p) = 10
error_number (Stopped s) = stop_number s

abbrev pub error_place : KmeansError → ℕ
error_place InvalidCorrelationMatrix = 0
error_place TooLarge = 0
error_place CellCount = 0
error_place ListLength = 0
error_place GroupCount = 0
error_place (CentreOutOfRange p) = p
error_place (Stopped s) = stop_place s

-- those of an answer, 0 where nothing is refused
abbrev pub number_of : {T : Type 0} → Result T KmeansError → ℕ
number_of (Ok x) = 0
number_of (Err e) = error_number e

abbrev pub place_of : {T : Type 0} → Result T KmeansError → ℕ
place_of (Ok x) = 0
place_of (Err e) = error_place e

abbrev pub refusal_of : {T : Type 0} → Result T KmeansError → Refusal
refusal_of a = record { number = number_of a; place = place_of a }

-- the draws read; a refusal gives them as its place, where the table says so
abbrev pub read_of : Result ℕ KmeansError → ℕ
read_of (Ok read) = read
read_of (Err e) = 0
