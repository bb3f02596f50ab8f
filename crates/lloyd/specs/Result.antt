-- What the passes leave in the labels and in the table, and what a call answers: by lloyd_pass/specs/Passes.antt, in the list of lloyd_table/specs/Area.antt. Definitions only.
use Rattle.std.specs.Prelude.{ℕ, ◌≡◌, List, length, Float}
use Rattle.lists.specs.Lists.{numbers}
use Rattle.lloyd_table.specs.Area.{Table}
use Rattle.lloyd_pass.specs.declared.Ended.{Ended}
use Rattle.lloyd_pass.specs.Passes.{centroids_at, labels_at, lloyd_labels, lloyd_ended}

-- the labels and the table after t passes
pub record After (x : ℕ → ℕ → Float) (m : ℕ) (centres : List ℕ) (t : ℕ) (labels : List ℕ) (area : List Float) : Type 0 where
  pub given : labels ≡ labels_at x m (length centres) (numbers centres) t
  pub rows : Table area m (length centres) x (centroids_at x m (length centres) (numbers centres) t)

-- what a call answers, and what it leaves in the labels
pub record LloydResult (x : ℕ → ℕ → Float) (m : ℕ) (centres : List ℕ) (r : Ended) (labels' : List ℕ) : Type 0 where
  pub answer : r ≡ lloyd_ended x m (length centres) (numbers centres)
  pub labelled : labels' ≡ lloyd_labels x m (length centres) (numbers centres)
