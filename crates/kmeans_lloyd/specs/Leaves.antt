-- What `lloyd` gives and leaves. Definitions only.
use Rattle.std.specs.Prelude.{ℕ, List, length, Float}
use Rattle.lists.specs.Lists as list
use Rattle.lists.specs.Lists.{cell_at, first_from}
use Rattle.refusals.specs.Table.{none}
use Rattle.lloyd_pass.specs.Passes.{lloyd_labels}
use Rattle.kmeans_answers.specs.Leaf.{Leaf, leaf_refusal, lists_fit, leaf_of}

-- the labels of the items, from the items `centres` as first centroids; no draws are read
unfoldable pub lloyd_leaf : List Float → ℕ → List ℕ → List ℕ → List Float → List ℕ → Leaf
lloyd_leaf points n centres labels floats numbers =
    leaf_of (leaf_refusal (length points) n (lists_fit n (length labels) n (length floats) (length numbers)) (length centres) (first_from n centres) (length centres)) n
    (record { answer = none; read = 0; out = lloyd_labels (cell_at points n) n (length centres) (list.numbers centres) }) labels floats numbers
