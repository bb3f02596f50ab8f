use Prim.Native.Nat.{◌*◌}
use mathlib.Core.Path.{◌∙◌, ap}
use mathlib.Core.List.{List}
use lib.ListN.{drop, length}
use lib.Ieee.{Float}
use Rattle.lists.specs.Lists.{cell_at}
use Rattle.areas.specs.Pairs.{pairs_area}
use Rattle.areas.proofs.Regions.{pairs_begin}
use Rattle.distance_pairwise.proofs.point_pairs.Goals as goal

pub returns : goal.returns
returns c =
    let n = c.args.n in
    let p = c.copy_from_slice.ensures.after in
    c.pairs_in.ensures ∙ pairs_begin c.copy_from_slice.new.self (drop (n * n) c.args.area.now) n (ap length p ∙ c.requires.1) ∙ ap (λ (x : List Float). pairs_area (cell_at x n) n) p
