-- What the squared distance of two lists, and of two items of a book, is. Definitions only.
use Rattle.std.specs.Prelude.{ℕ, ◌+◌, min, true, cond, List, [], ◌∷◌, eqb, ltb, leb, length, Result, Ok, Err, Float}
use Rattle.lists.specs.Lists.{cells, first_from}
use Rattle.lists.specs.Sums.{sum_to, square_from}
use Rattle.refusals.specs.Table.{Refusal, refusal, number_of, place_of}
use Rattle.distance.specs.Distance.{dist_at}
use Rattle.distance_columns.specs.Pair.{squared_at}
use Rattle.refusals.specs.declared.Cause.{Cause}

-- squared_distance of two lists: over the columns that both have
unfoldable pub squared_distance : List Float → List Float → Float
squared_distance a b = sum_to (λ c. square_from (cells b c) (cells a c)) (min (length a) (length b))

-- the first bad number among the row numbers, then i, then j, which are items of the book that the m rows make
unfoldable pub first_bad : ℕ → ℕ → ℕ → ℕ → ℕ
first_bad bad m i j = cond (ltb bad m) bad (cond (leb m i) m (cond (leb m j) (m + 1) (m + 2)))

-- the table's number and place for each answer, and its values
abbrev pub number_of_squared : Result Float Cause → ℕ
number_of_squared (Ok x) = 0
number_of_squared (Err k) = number_of (Err k)

abbrev pub place_of_squared : Result Float Cause → ℕ
place_of_squared (Ok x) = 0
place_of_squared (Err k) = place_of (Err k)

abbrev pub values_of : Result Float Cause → List Float
values_of (Ok x) = x ∷ []
values_of (Err k) = []

-- an answer as the table gives it: the refusal, and the values
pub record Measured : Type 0 where
  pub answer : Refusal
  pub values : List Float

abbrev pub measured_of : Result Float Cause → Measured
measured_of r = record { answer = record { number = number_of_squared r; place = place_of_squared r }; values = values_of r }

abbrev pub measured : Refusal → Float → Measured
measured q x = record { answer = q; values = cond (eqb q.number 0) (x ∷ []) [] }

-- squared_distance of items i and j of the book that the rows make
unfoldable pub squared_distance_through : List Float → ℕ → List ℕ → ℕ → ℕ → Measured
squared_distance_through book n rows i j =
    measured (refusal (length book) n (length rows) true (first_bad (first_from n rows) (length rows) i j) (length rows + 2))
    (squared_at (dist_at book n rows) (length rows) i j)
