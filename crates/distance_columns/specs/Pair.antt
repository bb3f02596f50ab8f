-- The distance of two items that are given by their columns. Definitions only.
use Rattle.std.specs.Prelude.{ℕ, Float}
use Rattle.sqrt.specs.Root.{root}
use Rattle.lists.specs.Sums.{sum_to, square_from}

-- the squared distance of an item to another, or to a centroid, both given by their m columns and summed in column order
abbrev pub squared : (ℕ → Float) → (ℕ → Float) → ℕ → Float
squared a b m = sum_to (λ c. square_from (b c) (a c)) m

-- the squared distance of items i and j, whose columns are x i and x j: in a round x i c is item i's distance to item c; and their distance
unfoldable pub squared_at : (ℕ → ℕ → Float) → ℕ → ℕ → ℕ → Float
squared_at x m i j = squared (x i) (x j) m

unfoldable pub pair_at : (ℕ → ℕ → Float) → ℕ → ℕ → ℕ → Float
pair_at x m i j = root (squared_at x m i j)
