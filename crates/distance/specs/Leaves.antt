-- What each call gives and leaves: the table's first row that applies, or the values. Definitions only.
use Rattle.std.specs.Prelude.{ℕ, ◌*◌, List, eqb, length, Float}
use Rattle.lists.specs.Lists.{cell_at, matrix_of, first_from}
use Rattle.refusals.specs.Table.{Refusal, refusal, Filled, filled}
use Rattle.distance.specs.Distance.{distance_of, cell_through, dist_at}

-- the rows of the table for a book of n columns of which all rows are read, and for one that is read through a list of row numbers;
-- `out` is the length of the output list
abbrev pub refusal_plain : List Float → ℕ → ℕ → Refusal
refusal_plain book n out = refusal (length book) n n (eqb out (n * n)) 0 0

abbrev pub refusal_through : List Float → ℕ → List ℕ → ℕ → Refusal
refusal_through book n rows out =
    refusal (length book) n (length rows) (eqb out (length rows * length rows)) (first_from n rows) (length rows)

-- corr_to_distance, on the whole book and through the rows
unfoldable pub corr_to_distance : List Float → ℕ → List Float → Filled
corr_to_distance book n out = filled (refusal_plain book n (length out)) (matrix_of (λ i j. distance_of (cell_at book n i j)) n) out

unfoldable pub corr_to_distance_through : List Float → ℕ → List ℕ → List Float → Filled
corr_to_distance_through book n rows out = filled (refusal_through book n rows (length out)) (matrix_of (dist_at book n rows) (length rows)) out

-- submatrix: the cells of the book that the rows make
unfoldable pub submatrix_of : List Float → ℕ → List ℕ → List Float → Filled
submatrix_of book n rows out = filled (refusal_through book n rows (length out)) (matrix_of (cell_through book n rows) (length rows)) out
