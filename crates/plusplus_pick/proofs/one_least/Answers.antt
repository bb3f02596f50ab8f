use mathlib.Core.Path.{◌∙◌, ap, refl}
use lib.Ieee.{add, binary64, of_bits}
use Rattle.lists.specs.Sums.{lesser, sum_to}
use Rattle.lists.specs.Lists.{cells}
use Rattle.lists.proofs.Sums.{sum_more}
use Rattle.plusplus_pick.proofs.one_least.Goals as goal

pub loop-i-init : goal.loop-i-init
unfolding sum_to of_bits
loop-i-init c = (refl)

pub loop-i-preserved : goal.loop-i-preserved
loop-i-preserved c =
    let s = c.args in
    let l = c.loop-i in
    (ap (add binary64 l.sum) c.lesser-sum.ensures ∙ sum_more (λ k. lesser (cells s.a.now k) (cells s.weights.now k)) l.i l.invariant)
