-- The rows of the table of refusals that concern a call on lent lists, and what such a call leaves in its lists. Definitions only.
use Rattle.std.specs.Prelude.{ℕ, ◌+◌, ◌*◌, Bool, cond, ◌||◌, List, ◌++◌, eqb, ltb, drop, replicate, Result, Ok, Err, Float}
use Rattle.lists.specs.Sums.{zero64}
use Rattle.refusals.specs.declared.Cause.{Cause}
use Rattle.refusals.specs.declared.Cause.TheVariants.{InvalidCorrelationMatrix, TooLarge, CellCount, ListLength, OutOfRange}

-- the answer of a call that gives no value: Ok, or the row of the table that refuses it
abbrev pub Answer : Type 0
Answer = Result (Unit {0}) Cause

-- the table's number for each answer, 0 where nothing is refused, and its place, 0 where the table names none
abbrev pub number_of : Answer → ℕ
number_of (Ok done) = 0
number_of (Err InvalidCorrelationMatrix) = 2
number_of (Err TooLarge) = 4
number_of (Err CellCount) = 5
number_of (Err ListLength) = 6
number_of (Err (OutOfRange k)) = 10

abbrev pub place_of : Answer → ℕ
place_of (Ok done) = 0
place_of (Err InvalidCorrelationMatrix) = 0
place_of (Err TooLarge) = 0
place_of (Err CellCount) = 0
place_of (Err ListLength) = 0
place_of (Err (OutOfRange k)) = k

-- a refusal as the table gives it: number and place; number 0 stands for a call that is not refused
pub record Refusal : Type 0 where
  pub number : ℕ
  pub place : ℕ

abbrev pub refusal_of : Answer → Refusal
refusal_of a = record { number = number_of a; place = place_of a }

abbrev pub none : Refusal
none = record { number = 0; place = 0 }

abbrev pub refused : ℕ → Refusal
refused k = record { number = k; place = 0 }

-- a row of the table: its refusal where the test holds (or fails), else the rows below it
unfoldable pub whenever : Bool → Refusal → Refusal → Refusal
whenever test q below = cond test q below

unfoldable pub unless : Bool → Refusal → Refusal → Refusal
unless test q below = cond test below q

-- The first row that applies to a book of n columns with `cells` cells, of which m rows are read: 2, 4, 5; then 6 where the other lists
-- do not fit; then 10 at the place `bad`, the first of `count` numbers that is out of range, if it is below `count`.
unfoldable pub refusal : ℕ → ℕ → ℕ → Bool → ℕ → ℕ → Refusal
refusal cells n m fits bad count =
    whenever (ltb n 2 || ltb m 2) (refused 2)
    (whenever (ltb 256 n || ltb 256 m) (refused 4)
    (unless (eqb cells (n * n)) (refused 5)
    (unless fits (refused 6)
    (whenever (ltb bad count) (record { number = 10; place = bad }) none))))

-- the rows above, and where none of them applies the rows below
unfoldable pub or_else : Refusal → Refusal → Refusal
or_else q below = cond (eqb q.number 0) below q

-- a list after the call: `new` where nothing is refused, else as it was
abbrev pub after : {A : Type 0} → Refusal → List A → List A → List A
after q new old = cond (eqb q.number 0) new old

-- the doubles that a run over m names is lent to work in, and that list when its front part is left zero
abbrev pub work_doubles : ℕ → ℕ
work_doubles m = 8 * (m * m) + 256 * m

abbrev pub wiped : ℕ → List Float → List Float
wiped m floats = replicate (work_doubles m) zero64 ++ drop (work_doubles m) floats

-- the whole numbers that it is lent, and that list when its front part is left zero
abbrev pub work_numbers : ℕ → ℕ
work_numbers m = 320 * m

abbrev pub wiped_numbers : ℕ → List ℕ → List ℕ
wiped_numbers m numbers = replicate (work_numbers m) 0 ++ drop (work_numbers m) numbers

-- what a call with one output list gives and leaves
pub record Filled : Type 0 where
  pub answer : Refusal
  pub out : List Float

abbrev pub filled : Refusal → List Float → List Float → Filled
filled q new old = record { answer = q; out = after q new old }

-- the same of a call that is also lent a list to work in, at the length for m names
pub record Worked : Type 0 where
  pub answer : Refusal
  pub out : List Float
  pub floats : List Float

abbrev pub worked : Refusal → ℕ → List Float → List Float → List Float → Worked
worked q m new old floats = record { answer = q; out = after q new old; floats = after q (wiped m floats) floats }
