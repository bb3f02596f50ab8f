-- What the rounds get of a matrix of points. Definitions only.
use Rattle.std.specs.Prelude.{ℕ, List, ◌++◌, Float}
use Rattle.lists.specs.Lists.{matrix_of}
use Rattle.distance_columns.specs.Pair.{squared_at, pair_at}

-- the four areas of a round over m items whose columns are x, x i c being item i's distance to item c: the columns by item, the items by column, the squared pair distances, the pair distances
unfoldable pub pairs_area : (ℕ → ℕ → Float) → ℕ → List Float
pairs_area x m = matrix_of x m ++ (matrix_of (λ i j. x j i) m ++ (matrix_of (squared_at x m) m ++ matrix_of (pair_at x m) m))
