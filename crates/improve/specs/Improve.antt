-- A partition whose weak groups were clustered again, in a book of their own. López de Prado, MLAM (2020) section 4.4, snippet 4.2
-- (higher-level clustering). Definitions only.
use Rattle.std.specs.Prelude.{ℕ, List, Float}
use Rattle.silhouette_areas.specs.Scoring.{scores_of}
use Rattle.partition.specs.Partition.{label_of, State}
use Rattle.quality.specs.Quality.{qualities_of, average, weak_mean}
use Rattle.choice.specs.Choice.{chosen}
use Rattle.improve_merge.specs.Merging.{merged_of}

-- groups of the m items whose columns are x, with the scores worked out afresh
abbrev pub rescored : (ℕ → ℕ → Float) → ℕ → List (List ℕ) → State
rescored x m gs = record { groups = gs; scores = scores_of x m (label_of gs) }

-- the plain average of the groups' t-stats
abbrev pub mean_quality : State → Float
mean_quality s = average (qualities_of s.scores s.groups)

-- the improved partition where the average over all its groups is above that over the weak groups before, else the one before
abbrev pub better_of : (ℕ → ℕ → Float) → ℕ → State → List (List ℕ) → State
better_of x m s inner =
    chosen (mean_quality (rescored x m (merged_of s inner))) (weak_mean (qualities_of s.scores s.groups)) s (rescored x m (merged_of s inner))
