use Prim.Native.Nat.{ℕ}
use mathlib.Core.Path.{◌∙◌}
use native.Mathlib.Omega.{arith}
use lib.ListN.{length}
use lib.Ieee.{Float}
use Rattle.lists.specs.Lists.{cell_at}
use Rattle.lists.proofs.Listed.{listed_length}
use Rattle.lloyd_mean.proofs.Means.{to_centroid}
use Rattle.lloyd_mean.proofs.distances_with.Goals as goal

pub squared_tail-requires : goal.squared_tail-requires
squared_tail-requires c =
    let w = listed_length _ _ c.mean_row.ensures in
    record { few = rw w c.requires.0.few; square = rw w (listed_length _ _ c.requires.0.turned); within = omega arith; sums_length = omega (arith, c.requires.2, w) }

pub returns : goal.returns
returns c =
    let m = length c.args.labels.now in
    let x : ℕ → ℕ → Float = cell_at c.args.points.now m in
    c.squared_tail.ensures ∙ to_centroid x _ m c.mean_row.ensures c.requires.0.turned
