-- Which kind a round takes each of its draws as. Definitions only.
use Rattle.std.specs.Prelude.{ℕ, ◌+◌, ◌-◌, ◌*◌, ◌<◌, ◌≤◌, max, List, Float}
use Rattle.distance_columns.specs.Pair.{squared_at}
use Rattle.draws.specs.Counts.{seedings_of, count_of}
use Rattle.plusplus_seeded.specs.Kinds.{Kind, KindAt}

-- a round of m items, whose columns are x and whose first draw has the place `at`, takes the draw at place p of `draws` as one of this kind: for the seeding of
-- some k centres in some repeat, which starts behind the repeats before it and the seedings of 2, 3, .., k - 1 centres
abbrev pub RoundKindAt : (ℕ → ℕ → Float) → (m repeats at : ℕ) → List ℕ → ℕ → Kind → Type 0
RoundKindAt x m repeats at draws p kind =
    (r : ℕ) × (k : ℕ) × (r < repeats) × (2 ≤ k) × (k ≤ max 2 (m - 1)) × KindAt (squared_at x m) m k (at + r * count_of m + seedings_of 2 (k - 2)) draws p kind
