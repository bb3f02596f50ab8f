use mathlib.Core.Path.{refl}
use native.Mathlib.Omega.{arith}
use lib.Ieee.{nan}
use Rattle.lists.proofs.Listed.{writes, writes_done, writes_one}
use Rattle.distance.proofs.cell_row.Goals as goal

pub loop-j-init : goal.loop-j-init
unfolding writes
loop-j-init c = refl

pub loop-j-preserved : goal.loop-j-preserved
loop-j-preserved c = writes_one _ _ _ c.loop-j.invariant c.cell_at.ensures

pub returns : goal.returns
returns c = writes_done nan _ _ _ _ c.loop-j.invariant (omega arith) c.requires.2
