-- The silhouette (Rousseeuw 1987) of each of the m items of a round, whose columns are x, under the labels. Definitions only.
use Rattle.std.specs.Prelude.{ℕ, ◌*◌, ◌≡◌, List, Float}
use Rattle.lists.specs.Lists.{listed, part, matrix_of}
use Rattle.distance_columns.specs.Pair.{pair_at}
use Rattle.distance_columns.specs.Columns.{points_at}
use Rattle.silhouette_scores.specs.Scores.{silhouette}
use Rattle.lloyd_table.specs.Area.{Held}

-- the silhouette of each item, by the pair distances of the items
unfoldable pub scores_of : (ℕ → ℕ → Float) → ℕ → (ℕ → ℕ) → List Float
scores_of x m label = listed (λ i. silhouette (pair_at x m i) label m i) m

-- the areas of a round, as k-means asks for them, with the pair distances in the fourth
pub record Prepared (area : List Float) (m : ℕ) : Type 0 where
  pub held : Held area m
  pub pairs : part (3 * (m * m)) (m * m) area ≡ matrix_of (pair_at (points_at area m) m) m
