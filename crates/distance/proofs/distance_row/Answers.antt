use mathlib.Core.Path.{◌∙◌, ap, refl}
use native.Mathlib.Omega.{arith}
use lib.Ieee.{nan}
use Rattle.lists.proofs.Listed.{writes, writes_done, writes_one}
use Rattle.distance.specs.Distance.{dist_at, distance_of}
use Rattle.distance.proofs.distance_row.Goals as goal

pub loop-j-init : goal.loop-j-init
unfolding writes
loop-j-init c = refl

pub loop-j-preserved : goal.loop-j-preserved
unfolding dist_at
loop-j-preserved c = writes_one _ _ _ c.loop-j.invariant (c.distance.ensures ∙ ap distance_of c.cell_at.ensures)

pub returns : goal.returns
returns c = writes_done nan _ _ _ _ c.loop-j.invariant (omega arith) c.requires.2
