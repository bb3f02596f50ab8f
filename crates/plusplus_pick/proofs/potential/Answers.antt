use mathlib.Core.Path.{◌∙◌, ap, refl}
use lib.Ieee.{add, binary64, of_bits}
use Rattle.lists.specs.Lists.{cells}
use Rattle.lists.specs.Sums.{sum_to}
use Rattle.lists.proofs.Sums.{sum_more}
use Rattle.plusplus_pick.specs.Potentials.{lesser_number}
use Rattle.plusplus_pick.proofs.potential.Goals as goal

pub loop-i-init : goal.loop-i-init
unfolding sum_to of_bits
loop-i-init c = (refl)

pub loop-i-preserved : goal.loop-i-preserved
loop-i-preserved c =
    let a = c.args in
    let l = c.loop-i in
    (ap (add binary64 l.sum) c.lesser_number-sum.ensures ∙ sum_more (λ k. lesser_number (cells a.weights.now k) (cells a.squares.now k)) l.i l.invariant)
