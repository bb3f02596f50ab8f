use mathlib.Core.Path.{refl}
use native.Mathlib.Omega.{arith}
use lib.ListN.{length-set}
use borrow.Author.Rules.{rules}
use Rattle.lists.proofs.Listed.{writes, writes_done, writes_more}
use Rattle.onc_run.proofs.count_up.Goals as goal

pub loop-i-init : goal.loop-i-init
unfolding writes
loop-i-init c = (refl, omega arith, refl, refl)

pub loop-i-preserved : goal.loop-i-preserved
loop-i-preserved c = (search rules, search rules, simp length-set (search rules), writes_more (λ k. k) _ _ c.loop-i.invariant.3)

pub returns : goal.returns
returns c = writes_done 0 _ _ _ _ c.loop-i.invariant.3 (omega arith) refl
