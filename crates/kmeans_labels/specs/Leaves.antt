-- What `kmeans_labels` gives and leaves. Definitions only.
use Rattle.std.specs.Prelude.{ℕ, List, length, Float}
use Rattle.lists.specs.Lists.{cell_at}
use Rattle.draws.specs.Counts.{seeding_of}
use Rattle.draws.specs.Draws.{Drawn, drawn, refused}
use Rattle.kmeans.specs.Clustering.{Grouped, kmeans_of}
use Rattle.kmeans_answers.specs.Leaf.{Leaf, leaf_refusal, lists_fit, ran_of, leaf_of}

-- the labels alone
abbrev pub labels_of : Drawn Grouped → Drawn (List ℕ)
labels_of (drawn g rest) = drawn g.labels rest
labels_of (refused p) = refused p

-- the labels of the items in k groups; no centres are handed in, so `leaf_refusal` has 0 0 for them
unfoldable pub labels_leaf : List Float → ℕ → ℕ → List ℕ → List ℕ → List Float → List ℕ → Leaf
labels_leaf points n k draws labels floats numbers =
    leaf_of (leaf_refusal (length points) n (lists_fit n (length labels) n (length floats) (length numbers)) k 0 0) n
    (ran_of (seeding_of k) draws (labels_of (kmeans_of (cell_at points n) n k 0 draws)) labels) labels floats numbers
