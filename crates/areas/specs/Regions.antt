-- The list that the steps work in: the points, their transpose, the squared pair distances, the pair distances. Definitions only.
use Rattle.std.specs.Prelude.{ℕ, ◌*◌, ◌<◌, ◌≤◌, ◌≡◌, List, length, Float}
use Rattle.lists.specs.Lists.{part, flat, matrix_of, listed}
use Rattle.distance_columns.specs.Pair.{squared_at, pair_at}
use Rattle.distance_columns.specs.Columns.{points_at}

-- a list of four areas of m by m cells
pub record Area (area : List Float) (m : ℕ) : Type 0 where
  pub some : 0 < m
  pub few : m ≤ 256
  pub size : length area ≡ 4 * (m * m)

-- the same, with the transpose in the second area
pub record Turned (area : List Float) (m : ℕ) : Type 0 where
  pub four : Area area m
  pub across : part (m * m) (m * m) area ≡ matrix_of (λ i j. points_at area m j i) m

-- the same, with the first i rows of the squared pair distances in the third area
pub record Squaring (area : List Float) (m i : ℕ) : Type 0 where
  pub turned : Turned area m
  pub within : i < m
  pub rows : part (2 * (m * m)) (i * m) area ≡ listed (flat (squared_at (points_at area m) m) m) (i * m)

-- the same, with all of them
pub record Summed (area : List Float) (m : ℕ) : Type 0 where
  pub four : Area area m
  pub squares : part (2 * (m * m)) (m * m) area ≡ matrix_of (squared_at (points_at area m) m) m

-- the same, with the first i rows of the pair distances in the fourth area
pub record Rooted (area : List Float) (m i : ℕ) : Type 0 where
  pub summed : Summed area m
  pub within : i < m
  pub pairs : part (3 * (m * m)) (i * m) area ≡ listed (flat (pair_at (points_at area m) m) m) (i * m)
