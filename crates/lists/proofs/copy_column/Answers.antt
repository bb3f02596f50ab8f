use Rattle.std.proofs.Common.{refl, arith, length-set, rules}
use lib.Ieee.{nan}
use Rattle.lists.proofs.Listed.{writes, writes_done, writes_more}
use Rattle.lists.proofs.copy_column.Goals as goal

pub loop-j-init : goal.loop-j-init
unfolding writes
loop-j-init c = (search rules, search rules, refl)

pub loop-j-preserved : goal.loop-j-preserved
loop-j-preserved c = (search rules, simp length-set (search rules), writes_more _ _ _ c.loop-j.invariant.2)

pub returns : goal.returns
returns c = writes_done nan _ _ _ _ c.loop-j.invariant.2 (omega arith) (omega arith)
