-- Laws of the choice between a partition and the one whose weak groups were clustered again.
use Prim.Native.Nat.{ℕ}
use mathlib.Core.Path.{◌≡◌}
use mathlib.Core.Bool.{Bool, true, false, cond}
use mathlib.Core.List.{List}
use lib.ListN.{length}
use lib.Ieee.{Float, lt}
use Rattle.partition.specs.Partition.{Partition, State, label_of}
use Rattle.silhouette_areas.proofs.Laws.{scores_length}
use Rattle.quality.specs.Quality.{qualities_of, weak_mean}
use Rattle.improve_merge.specs.Merging.{weak_items, merged_of}
use Rattle.improve_merge.proofs.Merged.{merged_partition}
use Rattle.improve.specs.Improve.{rescored, mean_quality, better_of}

-- what holds of both holds of the one that is chosen
either : (P : State → Type 0) (new old : State) (t : Bool) → P new → P old → P (cond t new old)
either P new old true a b = a
either P new old false a b = b

-- the choice is a partition, whichever it is
pub better_partition : (x : ℕ → ℕ → Float) (m : ℕ) (s : State) (inner : List (List ℕ)) → Partition m s.groups → Partition (length (weak_items s)) inner
    → Partition m (better_of x m s inner).groups
better_partition x m s inner h k =
    either (λ b. Partition m b.groups) (rescored x m (merged_of s inner)) s (lt (weak_mean (qualities_of s.scores s.groups)) (mean_quality (rescored x m (merged_of s inner))))
    (merged_partition m s inner h k) h

-- and has a score for each item
pub better_scores : (x : ℕ → ℕ → Float) (m : ℕ) (s : State) (inner : List (List ℕ)) → length s.scores ≡ m → length (better_of x m s inner).scores ≡ m
better_scores x m s inner h =
    either (λ b. length b.scores ≡ m) (rescored x m (merged_of s inner)) s (lt (weak_mean (qualities_of s.scores s.groups)) (mean_quality (rescored x m (merged_of s inner))))
    (scores_length x m (label_of (merged_of s inner))) h
