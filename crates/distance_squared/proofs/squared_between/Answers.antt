use mathlib.Core.Path.{◌≡◌, refl}
use native.Mathlib.Omega.{arith}
use lib.ListN.{length}
use lib.Ieee.{of_bits}
use Rattle.lists.specs.Sums.{sum_to}
use Rattle.lists.proofs.Sums.{sum_more}
use Rattle.distance.specs.Distance.{dist_at}
use Rattle.distance_columns.specs.Pair.{squared_at}
use Rattle.distance_squared.proofs.squared_between.Goals as goal

pub loop-c-init : goal.loop-c-init
unfolding sum_to of_bits
loop-c-init c = refl

pub loop-c-preserved : goal.loop-c-preserved
unfolding dist_at
loop-c-preserved c = rw (c.distance.ensures, c.cell_at.ensures, c.distance-in-loop-c.ensures, c.cell_at-in-loop-c.ensures) (sum_more _ _ c.loop-c.invariant)

pub returns : goal.returns
unfolding squared_at
returns c = let e : c.loop-c.c ≡ length c.args.rows.now = omega arith in cc
