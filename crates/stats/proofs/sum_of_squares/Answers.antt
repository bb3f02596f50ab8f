use mathlib.Core.Path.{refl}
use lib.Ieee.{of_bits}
use Rattle.lists.specs.Sums.{sum_to}
use Rattle.lists.proofs.Sums.{sum_more}
use Rattle.stats.proofs.sum_of_squares.Goals as goal

pub loop-x-init : goal.loop-x-init
unfolding sum_to of_bits
loop-x-init c = refl

pub loop-x-preserved : goal.loop-x-preserved
loop-x-preserved c = sum_more _ _ c.loop-x.invariant
