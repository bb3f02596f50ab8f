-- What `pairwise_distances` gives and leaves, plain and through a list of row numbers. Definitions only.
use Rattle.std.specs.Prelude.{ℕ, ◌*◌, ◌<◌, ◌≤◌, ◌≡◌, Bool, ◌&&◌, List, eqb, leb, length, Float}
use Rattle.lists.specs.Lists.{cell_at, matrix_of, first_from}
use Rattle.refusals.specs.Table.{refusal, work_doubles, Worked, worked}
use Rattle.distance.specs.Distance.{dist_at}
use Rattle.distance_columns.specs.Pair.{pair_at}

-- an output of m by m cells, and doubles to work in at a run's length
abbrev pub lists_fit : ℕ → ℕ → ℕ → Bool
lists_fit m out floats = eqb out (m * m) && leb (work_doubles m) floats

-- the distances between n points of n columns each, which lie one after the other
unfoldable pub pairwise_distances : List Float → ℕ → List Float → List Float → Worked
pairwise_distances points n out floats =
    worked (refusal (length points) n n (lists_fit n (length out) (length floats)) 0 0) n (matrix_of (pair_at (cell_at points n) n) n) out floats

-- the same of the distances of the book that the rows make
unfoldable pub pairwise_distances_through : List Float → ℕ → List ℕ → List Float → List Float → Worked
pairwise_distances_through book n rows out floats =
    worked (refusal (length book) n (length rows) (lists_fit (length rows) (length out) (length floats)) (first_from n rows) (length rows)) (length rows)
    (matrix_of (pair_at (dist_at book n rows) (length rows)) (length rows)) out floats

-- what holds of the lists once they fit
pub record Fitting (m : ℕ) (out floats : List Float) : Type 0 where
  pub some : 0 < m
  pub few : m ≤ 256
  pub out_length : length out ≡ m * m
  pub room : work_doubles m ≤ length floats
