use mathlib.Core.Path.{◌∙◌, ◌≡◌, ap, refl}
use native.Mathlib.Omega.{arith}
use lib.ListN.{length, length-set}
use lib.Ieee.{nan, of_bits}
use Rattle.lists.specs.Sums.{sum_to}
use Rattle.lists.specs.Lists.{cells}
use Rattle.lists.proofs.Sums.{sum_more}
use Rattle.lists.proofs.Listed.{writes, writes_done, writes_one}
use Rattle.plusplus_pick.proofs.Picks.{running_more}
use Rattle.plusplus_pick.proofs.sum_weights.Goals as goal

pub loop-i-init : goal.loop-i-init
unfolding sum_to writes of_bits
loop-i-init c = (c.requires, refl, refl)

pub loop-i-preserved : goal.loop-i-preserved
loop-i-preserved c =
    let h = c.loop-i.invariant in
    let w = cells c.args.weights.now in
    (simp length-set h.0, sum_more w c.loop-i.i h.1, writes_one _ _ _ h.2 (running_more w c.loop-i.i h.1))

pub returns : goal.returns
returns c =
    let h = c.loop-i.invariant in
    let e : c.loop-i.i ≡ length c.args.weights.now = omega arith in
    (h.1 ∙ ap (sum_to (cells c.args.weights.now)) e, writes_done nan _ _ _ _ h.2 e c.requires)
