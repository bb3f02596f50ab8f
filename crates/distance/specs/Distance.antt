-- Distances of a book of correlations. López de Prado, MLAM (2020) section 4.4, snippet 4.1 (base clustering). Definitions only.
use Rattle.std.specs.Prelude.{ℕ, ◌*◌, ◌<◌, ◌≤◌, ◌≡◌, true, false, cond, List, length, pos, Float}
use Rattle.std.specs.Float.{fin, binary64}
use Rattle.std.specs.Float.Ieee.{lt, sub, div}
use Rattle.sqrt.specs.Root.{root}
use Rattle.lists.specs.Lists.{numbers, cell_at}
use Rattle.lists.specs.Sums.{one64}

abbrev pub minus_one64 : Float
minus_one64 = fin true 1 (pos 0)

abbrev pub two64 : Float
two64 = fin false 1 (pos 1)

-- c, clamped to -1..1; a NaN passes
unfoldable pub clamped : Float → Float
clamped c = cond (lt c minus_one64) minus_one64 (cond (lt one64 c) one64 c)

-- the distance of two names with the correlation c: the root of (1 - c) / 2
unfoldable pub distance_of : Float → Float
distance_of c = root (div binary64 (sub binary64 one64 (clamped c)) two64)

-- row i, column j of the book that the rows make out of a book of n columns: a cell of the whole, which stays where it is
unfoldable pub cell_through : List Float → ℕ → List ℕ → ℕ → ℕ → Float
cell_through book n rows i j = cell_at book n (numbers rows i) (numbers rows j)

-- the distance of names i and j of that book
unfoldable pub dist_at : List Float → ℕ → List ℕ → ℕ → ℕ → Float
dist_at book n rows i j = distance_of (cell_through book n rows i j)

-- what a read through the rows needs: n rows of n cells, and each row number below n
pub record Readable (book : List Float) (n : ℕ) (rows : List ℕ) : Type 0 where
  pub few : n ≤ 256
  pub square : length book ≡ n * n
  pub few_read : length rows ≤ 256
  pub within : (k : ℕ) → k < length rows → numbers rows k < n
