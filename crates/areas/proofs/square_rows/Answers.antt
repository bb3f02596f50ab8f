use Prim.Native.Nat.{◌*◌, ◌-◌, ◌≤◌}
use native.Mathlib.Omega.{arith}
use lib.ListN.{length}
use lib.Seq.{length-take-le}
use Rattle.distance_columns.specs.Pair.{squared_at}
use Rattle.lists.specs.Lists.{cell_at}
use Rattle.distance_columns.specs.Columns.{points_at}
use Rattle.lists.proofs.Areas.{area_none}
use Rattle.areas.proofs.Regions.{row_more, squaring_rows}
use Rattle.areas.proofs.square_rows.Goals as goal

pub loop-i-init : goal.loop-i-init
loop-i-init c = area_none (2 * (c.args.m * c.args.m)) (squared_at (points_at c.args.area.now c.args.m) c.args.m) c.args.m c.args.area.now

pub square_row-requires : goal.square_row-requires
square_row-requires c =
    let h : c.args.m - c.loop-i.i ≤ length c.loop-i.sums = omega (arith, c.requires.1) in
    (squaring_rows c.args.area.now c.args.m c.loop-i.i c.requires.0 c.loop-i-test.true c.loop-i.invariant, length-take-le (c.args.m - c.loop-i.i) c.loop-i.sums h)

pub loop-i-preserved : goal.loop-i-preserved
loop-i-preserved c =
    let m = c.args.m in
    row_more (λ p. squared_at (cell_at p m) m) (2 * (m * m)) m c.loop-i.i c.args.area.now (omega (arith, c.requires.0.four.size)) (omega arith) c.loop-i-test.true c.loop-i.invariant c.square_row.ensures
