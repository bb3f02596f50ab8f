use mathlib.Core.Path.{refl}
use native.Mathlib.Omega.{arith}
use lib.Ieee.{nan}
use Rattle.lists.specs.Lists.{cells}
use Rattle.lists.proofs.Listed.{writes, writes_done, writes_step}
use Rattle.distance_columns.specs.Columns.{added_four}
use Rattle.distance_columns.proofs.add_four.Goals as goal

pub loop-j-init : goal.loop-j-init
unfolding writes
loop-j-init c = refl

pub loop-j-preserved : goal.loop-j-preserved
loop-j-preserved c =
    let a = c.args in
    writes_step nan (λ s k. added_four s (cells a.a.now k) (cells a.b.now k) (cells a.c.now k) (cells a.d.now k) a.w a.x a.y a.z) c.loop-j.j a.sums.now c.loop-j.invariant

pub returns : goal.returns
returns c = writes_done nan _ _ _ _ c.loop-j.invariant (omega arith) refl
