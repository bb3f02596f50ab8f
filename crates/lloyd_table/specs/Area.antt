-- The list that the passes work in, and what each step leaves. Definitions only.
-- It has five areas of m by m cells: the points, their transpose, the squared pair distances, one that is not used here, and the table,
-- whose row l has the squared distances of all items to centroid l.
use Rattle.std.specs.Prelude.{ℕ, ◌+◌, ◌*◌, ◌<◌, ◌≤◌, ◌≡◌, true, cond, List, eqb, length, take, set, Float}
use Rattle.std.specs.Float.{inf}
use Rattle.lists.specs.Lists.{numbers, part, put, matrix_of}
use Rattle.lists.specs.Sums.{group_size}
use Rattle.distance_columns.specs.Pair.{squared_at}
use Rattle.distance_columns.specs.Columns.{points_at}
use Rattle.lloyd_nearest.specs.Nearest.{farthest_of}
use Rattle.lloyd_members.specs.Members.{same_group}
use Rattle.lloyd_mean.specs.Groups.{mean, distances}

-- what is lent: the areas but for the table
pub record Held (area : List Float) (m : ℕ) : Type 0 where
  pub some : 0 < m
  pub few : m ≤ 256
  pub size : length area ≡ 5 * (m * m)
  pub across : part (m * m) (m * m) area ≡ matrix_of (λ i j. points_at area m j i) m
  pub squares : part (2 * (m * m)) (m * m) area ≡ matrix_of (squared_at (points_at area m) m) m

-- centres: items, at most m of them
pub record Centres (centres : List ℕ) (m : ℕ) : Type 0 where
  pub groups : length centres ≤ m
  pub items : (l : ℕ) → l < length centres → numbers centres l < m

-- row l of the table, and the list with r in its place
abbrev pub table_row : List Float → ℕ → ℕ → List Float
table_row area m l = part (4 * (m * m) + l * m) m area

abbrev pub with_row : List Float → ℕ → ℕ → List Float → List Float
with_row area m l r = put (4 * (m * m) + l * m) m area r

-- the table has the distances to k centroids
abbrev pub Table : List Float → ℕ → ℕ → (ℕ → ℕ → Float) → (ℕ → ℕ → Float) → Type 0
Table area m k x centroid = (l : ℕ) → l < k → table_row area m l ≡ distances x m (centroid l)

-- if group l has members, the same as before, row l already has the distances to their mean
abbrev pub Kept : (ℕ → ℕ → Float) → List Float → List ℕ → List ℕ → ℕ → ℕ → Type 0
Kept x area old labels m l =
    (group_size (numbers labels) m l ≡ 0 → ⊥) → same_group old labels m l ≡ true → table_row area m l ≡ distances x m (mean x (numbers labels) m l)

-- what the step of group l makes of the list and of the distances, where a taken item has -infinity
pub record Refreshed (x : ℕ → ℕ → Float) (labels : List ℕ) (m l : ℕ) (dists area dists' area' : List Float) : Type 0 where
  pub own : table_row area' m l ≡ distances x m (cond (eqb (group_size (numbers labels) m l) 0) (x (farthest_of dists)) (mean x (numbers labels) m l))
  pub others : (j : ℕ) → (j ≡ l → ⊥) → table_row area' m j ≡ table_row area m j
  pub front : take (4 * (m * m)) area' ≡ take (4 * (m * m)) area
  pub dists_after : dists' ≡ cond (eqb (group_size (numbers labels) m l) 0) (set dists (farthest_of dists) (inf true)) dists
