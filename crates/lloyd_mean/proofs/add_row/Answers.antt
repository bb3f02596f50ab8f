use mathlib.Core.Path.{refl}
use native.Mathlib.Omega.{arith}
use lib.Ieee.{add, binary64, nan}
use Rattle.lists.specs.Lists.{cells}
use Rattle.lists.proofs.Listed.{writes, writes_done, writes_step}
use Rattle.lloyd_mean.proofs.add_row.Goals as goal

pub loop-i-init : goal.loop-i-init
unfolding writes
loop-i-init c = refl

pub loop-i-preserved : goal.loop-i-preserved
loop-i-preserved c = writes_step nan (λ s k. add binary64 s (cells c.args.row.now k)) c.loop-i.i c.args.out.now c.loop-i.invariant

pub returns : goal.returns
returns c = writes_done nan _ _ _ _ c.loop-i.invariant (omega arith) (omega arith)
