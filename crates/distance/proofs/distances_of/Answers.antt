use mathlib.Core.Path.{refl}
use native.Mathlib.Omega.{arith}
use lib.Ieee.{nan}
use Rattle.lists.proofs.Listed.{writes, writes_done, writes_one}
use Rattle.distance.proofs.distances_of.Goals as goal

pub loop-t-init : goal.loop-t-init
unfolding writes
loop-t-init c = refl

pub loop-t-preserved : goal.loop-t-preserved
loop-t-preserved c = writes_one _ _ _ c.loop-t.invariant c.distance.ensures

pub returns : goal.returns
returns c = writes_done nan _ _ _ _ c.loop-t.invariant (omega arith) c.requires
