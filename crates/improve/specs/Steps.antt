-- What the functions ask and leave. Definitions only.
use Rattle.std.specs.Prelude.{ℕ, ◌*◌, ◌<◌, ◌≡◌, List, length, Float}
use Rattle.distance.specs.Distance.{Readable}
use Rattle.partition.specs.Partition.{State}
use Rattle.improve_merge.specs.Steps.{PartitionLists, Merged}
use Rattle.improve.specs.Improve.{mean_quality}

-- a book, the groups of its items, and lists to work in
pub record Scored (book : List Float) (n : ℕ) (rows order sizes : List ℕ) (count : ℕ) (area : List Float) (labels scores : ℕ) : Type 0 where
  pub readable : Readable book n rows
  pub some : 0 < length rows
  pub groups : PartitionLists (length rows) count order sizes
  pub size : length area ≡ 5 * (length rows * length rows)
  pub labels_long : labels ≡ length rows
  pub scores_long : scores ≡ length rows

-- groups with scores, and the plain average of the groups' t-stats
pub record Improves (s : State) (m groups : ℕ) (mean : Float) (out counts : List ℕ) (scores : List Float) : Type 0 where
  pub merged : Merged s.groups m groups out counts
  pub scored : scores ≡ s.scores
  pub mean_is : mean ≡ mean_quality s
