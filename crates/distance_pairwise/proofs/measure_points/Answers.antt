use Prim.Native.Nat.{◌*◌}
use mathlib.Core.Path.{◌∙◌, ap}
use mathlib.Core.List.{List, ◌++◌}
use lib.ListN.{drop}
use lib.Ieee.{Float}
use Rattle.lists.specs.Lists.{cell_at}
use Rattle.distance_pairwise.proofs.Handed.{fourth_area, wiped_same}
use Rattle.distance_pairwise.proofs.measure_points.Goals as goal

pub returns : goal.returns
returns c =
    let n = c.args.n in
    let floats = c.args.floats.now in
    let e = ap (λ (x : List Float). x ++ drop (4 * (n * n)) floats) c.point_pairs.ensures in
    (c.hand_out.ensures.0 ∙ fourth_area (cell_at c.args.points.now n) n floats e, c.hand_out.ensures.1 ∙ wiped_same (cell_at c.args.points.now n) n floats e)
