use Prim.Native.Nat.{◌*◌}
use native.Mathlib.Omega.{arith}
use Rattle.distance_columns.specs.Pair.{pair_at}
use Rattle.lists.specs.Lists.{cell_at}
use Rattle.lists.proofs.Areas.{area_none}
use Rattle.distance_columns.specs.Columns.{points_at}
use Rattle.areas.proofs.Regions.{rooted_rows, row_more}
use Rattle.areas.proofs.root_all.Goals as goal

pub loop-i-init : goal.loop-i-init
loop-i-init c = area_none (3 * (c.args.m * c.args.m)) (pair_at (points_at c.args.area.now c.args.m) c.args.m) c.args.m c.args.area.now

pub pair_row-requires : goal.pair_row-requires
pair_row-requires c = rooted_rows c.args.area.now c.args.m c.loop-i.i c.requires c.loop-i-test.true c.loop-i.invariant

pub loop-i-preserved : goal.loop-i-preserved
loop-i-preserved c =
    let m = c.args.m in
    row_more (λ p. pair_at (cell_at p m) m) (3 * (m * m)) m c.loop-i.i c.args.area.now (omega (arith, c.requires.four.size)) (omega arith) c.loop-i-test.true c.loop-i.invariant c.pair_row.ensures
