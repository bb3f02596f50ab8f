use mathlib.Core.Path.{refl}
use lib.Ieee.{add, binary64, of_bits}
use Rattle.lists.specs.Sums.{fold_if, zero64}
use Rattle.lists.specs.Lists.{cells}
use Rattle.quality.proofs.Weak.{weak_in_lem, weak_out}
use Rattle.quality.proofs.weak_mean.Goals as goal
use Rattle.quality.proofs.weak_mean.Goals.{then-q-limit, else-q-limit}

pub loop-q-init : goal.loop-q-init
unfolding fold_if of_bits
loop-q-init c = (c.average-limit.ensures, refl)

pub loop-q-preserved : goal.loop-q-preserved
loop-q-preserved c = (
  c.loop-q.invariant.0,
  elim c.if-q-limit.branch [ then-q-limit w ↦ weak_in_lem c.args.qs.now (λ s k. add binary64 s (cells c.args.qs.now k)) zero64 c.loop-q.q-index c.loop-q.invariant.0 c.loop-q.invariant.1 w.if-q-limit.true w.sum-is | else-q-limit w ↦ weak_out c.args.qs.now (λ s k. add binary64 s (cells c.args.qs.now k)) zero64 c.loop-q.q-index c.loop-q.invariant.0 c.loop-q.invariant.1 w.if-q-limit.false w.sum-is ],
)
