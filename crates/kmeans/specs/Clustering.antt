-- k-means of m items whose m columns are x, into k groups, on the draws ds, of which the first has the place `at`. Definitions only.
use Rattle.std.specs.Prelude.{ℕ, List, Float}
use Rattle.lists.specs.Lists.{numbers}
use Rattle.draws.specs.Draws.{Drawn, drawn, and_then}
use Rattle.distance_columns.specs.Pair.{squared_at}
use Rattle.plusplus.specs.Seeding.{seeding}
use Rattle.lloyd_pass.specs.declared.Ended.{Ended}
use Rattle.lloyd_pass.specs.Passes.{lloyd_labels, lloyd_ended}

-- the label of each item, and whether the passes converged or met the limit
pub record Grouped : Type 0 where
  pub labels : List ℕ
  pub ended : Ended

unfoldable pub kmeans_of : (ℕ → ℕ → Float) → ℕ → ℕ → ℕ → List ℕ → Drawn Grouped
kmeans_of x m k at ds =
    and_then (seeding (squared_at x m) m k at ds)
    (λ centres rest. drawn (record { labels = lloyd_labels x m k (numbers centres); ended = lloyd_ended x m k (numbers centres) }) rest)
