-- Lloyd's passes (Lloyd 1982) over m items in k groups, from the items centre 0, .., centre (k - 1) as centroids.
-- `taken` and `moved` are the rule for empty groups. Definitions only.
-- x i c is column c of item i, label i its group, dist i its squared distance to that group's centroid, +infinity where no distance is below it.
use Rattle.std.specs.Prelude.{ℕ, zero, suc, Bool, false, cond, ◌&&◌, ◌||◌, List, eqb, ltb, Float}
use Rattle.lists.specs.Lists.{listed, cells, numbers, first_to}
use Rattle.lists.specs.Sums.{group_size}
use Rattle.lloyd_nearest.specs.declared.Best.{Best}
use Rattle.lloyd_nearest.specs.Nearest.{nearest_to, farthest_to, same_labels}
use Rattle.lloyd_mean.specs.Groups.{mean}
use Rattle.distance_columns.specs.Pair.{squared}
use Rattle.lloyd_pass.specs.declared.Ended.{Ended}
use Rattle.lloyd_pass.specs.declared.Ended.TheVariants.{Converged, PassLimit}

-- item i is taken by an empty group below l; each takes the farthest item that is not yet taken, the lowest of equals
unfoldable pub taken : (ℕ → ℕ) → (ℕ → Float) → ℕ → ℕ → ℕ → Bool
taken label dist m zero i = false
taken label dist m (suc l) i =
    taken label dist m l i || (eqb (group_size label m l) 0 && eqb (farthest_to (taken label dist m l) dist m).at i)

-- the item that group l takes if it is empty
abbrev pub takes_item : (ℕ → ℕ) → (ℕ → Float) → ℕ → ℕ → ℕ
takes_item label dist m l = (farthest_to (taken label dist m l) dist m).at

-- the next centroid of group l: the item that it takes if it is empty, else the mean of its members
abbrev pub moved : (ℕ → ℕ → Float) → (ℕ → ℕ) → (ℕ → Float) → ℕ → ℕ → ℕ → Float
moved x label dist m l = cond (eqb (group_size label m l) 0) (x (takes_item label dist m l)) (mean x label m l)

-- the nearest of k centroids to item i, the lowest label of equals, with its squared distance; label 0 if no distance is below infinity
abbrev pub nearest_centroid : (ℕ → ℕ → Float) → ℕ → ℕ → (ℕ → ℕ → Float) → ℕ → Best
nearest_centroid x m k centroid i = nearest_to (λ l. squared (x i) (centroid l) m) k

-- the labels of a pass, and the distances that go with them
abbrev pub labels_of : (ℕ → ℕ → Float) → ℕ → ℕ → (ℕ → ℕ → Float) → List ℕ
labels_of x m k centroid = listed (λ i. (nearest_centroid x m k centroid i).at) m

abbrev pub dists_of : (ℕ → ℕ → Float) → ℕ → ℕ → (ℕ → ℕ → Float) → List Float
dists_of x m k centroid = listed (λ i. (nearest_centroid x m k centroid i).value) m

-- the centroids after t passes
unfoldable pub centroids_at : (ℕ → ℕ → Float) → ℕ → ℕ → (ℕ → ℕ) → ℕ → ℕ → ℕ → Float
centroids_at x m k centre zero = λ l. x (centre l)
centroids_at x m k centre (suc t) =
    moved x (numbers (labels_of x m k (centroids_at x m k centre t))) (cells (dists_of x m k (centroids_at x m k centre t))) m

-- the labels after t passes; before the first pass each label is k, which no pass gives
unfoldable pub labels_at : (ℕ → ℕ → Float) → ℕ → ℕ → (ℕ → ℕ) → ℕ → List ℕ
labels_at x m k centre zero = listed (λ i. k) m
labels_at x m k centre (suc t) = labels_of x m k (centroids_at x m k centre t)

-- pass t + 1 changes no label
abbrev pub converges_at : (ℕ → ℕ → Float) → ℕ → ℕ → (ℕ → ℕ) → ℕ → Bool
converges_at x m k centre t = same_labels (labels_at x m k centre t) (labels_at x m k centre (suc t)) m

-- how many passes change a label, before the first that changes none; 300 where each of 300 does
abbrev pub passes : (ℕ → ℕ → Float) → ℕ → ℕ → (ℕ → ℕ) → ℕ
passes x m k centre = first_to (converges_at x m k centre) 300

-- the labels at the end
abbrev pub lloyd_labels : (ℕ → ℕ → Float) → ℕ → ℕ → (ℕ → ℕ) → List ℕ
lloyd_labels x m k centre = labels_at x m k centre (passes x m k centre)

-- whether the passes converged, or were cut after 300
abbrev pub lloyd_ended : (ℕ → ℕ → Float) → ℕ → ℕ → (ℕ → ℕ) → Ended
lloyd_ended x m k centre = cond (ltb (passes x m k centre) 300) Converged PassLimit
