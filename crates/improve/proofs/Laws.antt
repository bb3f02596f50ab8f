-- From what the calls leave to what the functions promise: the scores of merged groups.
use Prim.Native.Nat.{ℕ, ◌*◌, ◌<◌}
use mathlib.Core.Path.{◌≡◌, ◌∙◌, ap}
use mathlib.Core.List.{List, ◌++◌}
use native.Mathlib.Omega.{arith}
use lib.ListN.{drop}
use lib.Ieee.{Float}
use Rattle.lists.specs.Lists.{listed, numbers}
use Rattle.lists.proofs.Listed.{get_d_listed}
use Rattle.distance_columns.specs.Columns.{points_at}
use Rattle.areas.specs.Pairs.{pairs_area}
use Rattle.silhouette_areas.specs.Scoring.{scores_of}
use Rattle.partition.specs.Partition.{Partition, label_of}
use Rattle.partition.specs.Orders.{cut}
use Rattle.improve_merge.specs.Steps.{state_of, PartitionLists, Merged}
use Rattle.improve.specs.Improve.{rescored, mean_quality}
use Rattle.improve.specs.Steps.{Improves}
use Rattle.silhouette_areas.proofs.Laws.{book_points, scores_same}
use Rattle.partition.proofs.Cuts.{cut-length}
use Rattle.partition.proofs.Labels.{labels_below}
use Rattle.improve_merge.proofs.Laws.{merged_cut}

-- the scores of groups, worked out on the areas of their book
pub book_scores : (x : ℕ → ℕ → Float) (m : ℕ) (area : List Float) {front : List Float} → front ≡ pairs_area x m → (gs : List (List ℕ)) {labels : List ℕ} {scores : List Float}
    → labels ≡ listed (label_of gs) m → scores ≡ scores_of (points_at (front ++ drop (4 * (m * m)) area) m) m (numbers labels) → scores ≡ scores_of x m (label_of gs)
book_scores x m area {front} e gs {labels} l h =
    h ∙ scores_same (points_at (front ++ drop (4 * (m * m)) area) m) x m (numbers labels) (label_of gs) (book_points x m area e)
    (λ i a. ap (λ (k : List ℕ). numbers k i) l ∙ get_d_listed (label_of gs) m i 0 a)

-- the label of each item is the number of one of the groups
pub book_labels : {m count : ℕ} {order sizes labels : List ℕ} → PartitionLists m count order sizes → 0 < m → labels ≡ listed (label_of (cut count sizes order)) m → (i : ℕ) → i < m → numbers labels i < count
book_labels {m} {count} {order} {sizes} {labels} q some l i h =
    let a : numbers labels i ≡ label_of (cut count sizes order) i = ap (λ (k : List ℕ). numbers k i) l ∙ get_d_listed (label_of (cut count sizes order)) m i 0 h in
    omega (arith, a, labels_below q.parts some i h, cut-length count sizes order)

-- the improved partition
module _ (x : ℕ → ℕ → Float) {gs : List (List ℕ)} {m r : ℕ} {out counts : List ℕ} (G : Merged gs m r out counts) (p : Partition m gs) where
  pub improves : {scores : List Float} {mean : Float} → scores ≡ scores_of x m (label_of (cut r counts out)) → mean ≡ mean_quality (state_of r counts out scores)
      → Improves (rescored x m gs) m r mean out counts scores
  improves {scores} {mean} s q =
      let scored : scores ≡ scores_of x m (label_of gs) = s ∙ ap (λ (k : List (List ℕ)). scores_of x m (label_of k)) (merged_cut G p) in
      record {
        merged = G;
        scored = scored;
        mean_is =
            q ∙ ap (λ (k : List (List ℕ)). mean_quality (record { groups = k; scores = scores })) (merged_cut G p)
            ∙ ap (λ (k : List Float). mean_quality (record { groups = gs; scores = k })) scored;
      }
