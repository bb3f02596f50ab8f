use mathlib.Core.Path.{◌∙◌, refl}
use native.Mathlib.Omega.{arith}
use lib.ListN.{length-set}
use lib.Ieee.{nan}
use Rattle.lists.specs.Lists.{cells}
use Rattle.lists.proofs.Listed.{listed_map, writes, writes_done, writes_more}
use Rattle.quality.proofs.gather.Goals as goal

pub loop-j-init : goal.loop-j-init
unfolding writes
loop-j-init c = (omega arith, refl)

pub loop-j-preserved : goal.loop-j-preserved
loop-j-preserved c = (simp length-set c.loop-j.invariant.0, writes_more _ _ _ c.loop-j.invariant.1)

pub returns : goal.returns
returns c = writes_done nan _ _ _ _ c.loop-j.invariant.1 (omega arith) (omega arith) ∙ listed_map (cells c.args.scores.now) 0 c.args.members.now
