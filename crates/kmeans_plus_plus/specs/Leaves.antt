-- What `kmeans_plus_plus` gives and leaves. Definitions only.
use Rattle.std.specs.Prelude.{ℕ, List, length, Float}
use Rattle.lists.specs.Lists.{cell_at}
use Rattle.draws.specs.Counts.{seeding_of}
use Rattle.distance_columns.specs.Pair.{squared_at}
use Rattle.plusplus.specs.Seeding.{seeding}
use Rattle.kmeans_answers.specs.Leaf.{Leaf, leaf_refusal, lists_fit, ran_of, leaf_of}

-- the centres of k groups, by k-means++; no centres are handed in, so `leaf_refusal` has 0 0 for them
unfoldable pub plus_plus_leaf : List Float → ℕ → ℕ → List ℕ → List ℕ → List Float → List ℕ → Leaf
plus_plus_leaf points n k draws centres floats numbers =
    leaf_of (leaf_refusal (length points) n (lists_fit n (length centres) k (length floats) (length numbers)) k 0 0) n
    (ran_of (seeding_of k) draws (seeding (squared_at (cell_at points n) n) n k 0 draws) centres) centres floats numbers
