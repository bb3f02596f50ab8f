use Prim.Native.Nat.{◌*◌, ◌+◌}
use mathlib.Core.Path.{◌∙◌, ap}
use mathlib.Core.List.{List}
use native.Mathlib.Omega.{arith}
use lib.Ieee.{Float}
use Rattle.lists.specs.Lists.{cell_at, put}
use Rattle.lists.proofs.Areas.{area_none}
use Rattle.distance_columns.specs.Columns.{points_at}
use Rattle.areas.proofs.Regions.{row_more, turned_row}
use Rattle.areas.proofs.transpose.Goals as goal

pub loop-i-init : goal.loop-i-init
loop-i-init c = area_none (c.args.m * c.args.m) (λ a b. points_at c.args.area.now c.args.m b a) c.args.m c.args.area.now

pub loop-i-preserved : goal.loop-i-preserved
loop-i-preserved c =
    let a = c.args in
    let l = c.loop-i in
    let m = a.m in
    row_more (λ p i j. cell_at p m j i) (m * m) m l.i a.area.now (omega (arith, c.requires.size)) (omega arith) c.loop-i-test.true l.invariant
    (c.gather.ensures ∙ ap (λ (x : List Float). put (m * m + l.i * m) m l.area x) (turned_row l.area m l.i c.loop-i-test.true))
