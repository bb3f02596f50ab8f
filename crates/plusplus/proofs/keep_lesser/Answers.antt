use mathlib.Core.Path.{◌∙◌, ap, refl}
use native.Mathlib.Omega.{arith}
use lib.ListN.{length-set, set}
use lib.Ieee.{nan}
use Rattle.lists.specs.Lists.{cells}
use Rattle.lists.proofs.Listed.{writes, writes_done, writes_step}
use Rattle.plusplus_pick.specs.Potentials.{lesser_number}
use Rattle.plusplus.proofs.keep_lesser.Goals as goal

pub loop-i-init : goal.loop-i-init
unfolding writes
loop-i-init c = (refl, refl)

pub loop-i-preserved : goal.loop-i-preserved
loop-i-preserved c =
    let a = c.args in
    let l = c.loop-i in (
      simp length-set (omega arith),
      ap (set l.weights l.i) c.lesser_number.ensures ∙ writes_step nan (λ s k. lesser_number s (cells a.squares.now k)) l.i a.weights.now l.invariant.1,
    )

pub returns : goal.returns
returns c = writes_done nan _ _ _ _ c.loop-i.invariant.1 (omega arith) refl
