-- What the inner functions leave: the groups one after the other, all items at a time. Definitions only.
-- `across` has a row for each item j, with the distances of all items to j; m is the count of items.
use Rattle.std.specs.Prelude.{ℕ, ◌*◌, ◌<◌, ◌≤◌, ◌≡◌, Bool, true, cond, ◌&&◌, List, eqb, ltb, length, Float}
use Rattle.std.specs.Float.{nan, inf, binary64}
use Rattle.std.specs.Float.Ieee.{div}
use Rattle.lists.specs.Lists.{listed, cells, numbers, cell_at}
use Rattle.lists.specs.Sums.{counted}
use Rattle.silhouette_scores.specs.Scores.{group_sum, group_count, least, silhouette}

-- the distance of item i to item j
abbrev pub distance : List Float → ℕ → ℕ → ℕ → Float
distance across m i j = cell_at across m j i

-- cell i of a list whose cells were `old`, with v in place of those of the members of l
abbrev pub at_members : (ℕ → ℕ) → ℕ → (ℕ → Float) → (ℕ → Float) → ℕ → Float
at_members label l v old i = cond (eqb (label i) l) (v i) (old i)

-- stands for the sum of a member of a group of `count`, so that its own group gives no b: a NaN is below nothing; a lone member is marked by -infinity
abbrev pub mark_of : ℕ → Float
mark_of count = cond (eqb count 1) (inf true) nan

-- a: the mean distance of item i to the others of its group
abbrev pub own_mean : List Float → List ℕ → ℕ → Float
own_mean across labels i =
    div binary64 (group_sum (distance across (length labels) i) (numbers labels) (length labels) i (numbers labels i))
    (counted (group_count (numbers labels) (length labels) i (numbers labels i)))

-- whether the group of item i is below l, and has no other member
abbrev pub lone_below : List ℕ → ℕ → ℕ → Bool
lone_below labels l i = ltb (numbers labels i) l && eqb (group_count (numbers labels) (length labels) i (numbers labels i)) 0

-- b of item i over the groups below l; -infinity marks an item that is alone in one of them
abbrev pub least_below : List Float → List ℕ → ℕ → ℕ → Float
least_below across labels l i =
    cond (lone_below labels l i) (inf true)
    (least (group_sum (distance across (length labels) i) (numbers labels) (length labels) i) (group_count (numbers labels) (length labels) i) (numbers labels i) l)

-- the lists after the groups below l
pub record Midway (across : List Float) (labels : List ℕ) (l : ℕ) (scores own : List Float) : Type 0 where
  pub leasts : scores ≡ listed (least_below across labels l) (length labels)
  pub means : (i : ℕ) → i < length labels → numbers labels i < l → cells own i ≡ own_mean across labels i
  pub means_length : length own ≡ length labels

-- at most 256 items, with their distances
pub record Shape (across : List Float) (labels : List ℕ) : Type 0 where
  pub few : length labels ≤ 256
  pub square : length across ≡ length labels * length labels

-- the score of each item
abbrev pub scores_across : List Float → List ℕ → List Float
scores_across across labels = listed (λ i. silhouette (distance across (length labels) i) (numbers labels) (length labels) i) (length labels)
