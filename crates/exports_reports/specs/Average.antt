-- A statistic called from C: the average in the output list `average`, one double. What it returns stands in the lent list `answer`, two numbers, of which
-- the first is the value too; `answer` is no output list. Definitions only.
use Rattle.std.specs.Prelude.{ℕ, cond, ◌&&◌, List, [], ◌∷◌, ◌++◌, eqb, length, drop, Float}
use Rattle.stats.specs.Average.{Averaged}

-- the value, and each list after the call
pub record AverageReport : Type 0 where
  pub number : ℕ
  pub answer : List ℕ
  pub average : List Float

-- the number of a call whose lists do not fit: 4 of over 65,536 values, else 6
abbrev pub number_without : Averaged → ℕ
number_without a = cond (eqb a.number 0) 6 a.number

-- The number and how many averages there are, 1 or 0, in `answer`; the average, where there is one, in `average`. If `answer` has another
-- length than 2 or `average` than 1, that is a list of wrong length, and both are as they were.
unfoldable pub average_reported : Averaged → List ℕ → List Float → AverageReport
average_reported a answer average =
    cond (eqb (length average) 1 && eqb (length answer) 2)
    (record { number = a.number; answer = a.number ∷ length a.values ∷ []; average = a.values ++ drop (length a.values) average })
    (record { number = number_without a; answer = answer; average = average })
