-- The weak items of a partition, and its kept groups with those of the inner book behind them. López de Prado, MLAM (2020) section 4.4, snippet 4.2
-- (higher-level clustering). Definitions only.
use Rattle.std.specs.Prelude.{ℕ, List, ◌++◌, map}
use Rattle.partition.specs.Partition.{joined, State}
use Rattle.quality.specs.Quality.{weak_groups, kept_groups}
use Rattle.row_numbers.specs.Rows.{rows_of}

-- the weak items, in group order: the rows of the inner book, by their numbers in the round's
unfoldable pub weak_items : State → List ℕ
weak_items s = joined (weak_groups s.scores s.groups)

-- groups of the inner book, by the row numbers of the round's: item j of the inner book is item `numbers items j` of the round's
abbrev pub translated : List ℕ → List (List ℕ) → List (List ℕ)
translated items gs = map (λ g. rows_of items g) gs

-- the kept groups, then the inner ones with their members in their inner order
unfoldable pub merged_of : State → List (List ℕ) → List (List ℕ)
merged_of s inner = kept_groups s.scores s.groups ++ translated (weak_items s) inner
