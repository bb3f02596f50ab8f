-- Squared distances from one item to all, column by column: what the sums hold after some columns. Definitions only.
use Rattle.std.specs.Prelude.{ℕ, ◌+◌, ◌-◌, ◌*◌, ◌≤◌, ◌≡◌, List, length, take, Float}
use Rattle.std.specs.Float.Ieee.{add}
use Rattle.std.specs.Float.{binary64}
use Rattle.lists.specs.Lists.{listed, cells, cell_at}
use Rattle.lists.specs.Sums.{sum_to, square_from}

-- s and the square of x - y
abbrev pub added : Float → Float → Float → Float
added s y x = add binary64 s (square_from y x)

abbrev pub added_four : Float → Float → Float → Float → Float → Float → Float → Float → Float → Float
added_four s a b c d w x y z = added (added (added (added s a w) b x) c y) d z

-- item j's column k
abbrev pub column_at : List Float → ℕ → ℕ → ℕ → Float
column_at across m j k = cells across (k * m + j)

-- the columns of the m items whose m by m matrix a list begins with
abbrev pub points_at : List Float → ℕ → ℕ → ℕ → Float
points_at area m = cell_at (take (m * m) area) m

-- the sums of the items from `from` on, after the first c columns: `own` is one item, and `across` has the columns of all, one after the other
abbrev pub sums_from : List Float → List Float → ℕ → ℕ → List Float
sums_from own across from c = listed (λ j. sum_to (λ k. square_from (column_at across (length own) (from + j) k) (cells own k)) c) (length own - from)

-- one item, the columns of all, and a sum for each item from `from` on
pub record Tail (own across : List Float) (from : ℕ) (sums : List Float) : Type 0 where
  pub few : length own ≤ 256
  pub square : length across ≡ length own * length own
  pub within : from ≤ length own
  pub sums_length : length sums ≡ length own - from
