use mathlib.Core.Path.{ap, refl}
use mathlib.Core.List.{List}
use native.Mathlib.Omega.{arith}
use lib.ListN.{set}
use lib.Ieee.{Float, add, binary64, nan}
use Rattle.lists.specs.Lists.{cells}
use Rattle.lists.proofs.Listed.{writes, writes_done, writes_step}
use Rattle.silhouette_scores.proofs.add_others.Goals as goal

pub loop-i-init : goal.loop-i-init
unfolding writes
loop-i-init c = refl

pub loop-i-preserved : goal.loop-i-preserved
loop-i-preserved c = writes_step nan (λ s k. add binary64 s (cells c.args.row.now k)) c.loop-i.i c.args.sums.now c.loop-i.invariant

pub returns : goal.returns
returns c = ap (λ (x : List Float). set x c.args.j (cells c.args.sums.now c.args.j)) (writes_done nan _ _ _ _ c.loop-i.invariant (omega arith) refl)
