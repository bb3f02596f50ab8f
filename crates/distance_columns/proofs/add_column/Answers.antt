use native.Mathlib.Omega.{arith}
use lib.Ieee.{nan}
use mathlib.Core.Path.{refl}
use Rattle.lists.specs.Lists.{cells}
use Rattle.lists.proofs.Listed.{writes, writes_done, writes_step}
use Rattle.distance_columns.specs.Columns.{added}
use Rattle.distance_columns.proofs.add_column.Goals as goal

pub loop-j-init : goal.loop-j-init
unfolding writes
loop-j-init c = refl

pub loop-j-preserved : goal.loop-j-preserved
loop-j-preserved c = let a = c.args in writes_step nan (λ s k. added s (cells a.column.now k) a.x) c.loop-j.j a.sums.now c.loop-j.invariant

pub returns : goal.returns
returns c = writes_done nan _ _ _ _ c.loop-j.invariant (omega arith) refl
