use mathlib.Core.Path.{refl}
use native.Mathlib.Omega.{arith}
use lib.Ieee.{binary64, div, mul, nan, of_bits}
use Rattle.lists.specs.Sums.{one64}
use Rattle.lists.proofs.Listed.{writes, writes_done, writes_step}
use Rattle.lloyd_mean.proofs.scale.Goals as goal

pub loop-x-init : goal.loop-x-init
unfolding writes
loop-x-init c = refl

pub loop-x-preserved : goal.loop-x-preserved
unfolding of_bits
loop-x-preserved c = writes_step nan (λ x k. mul binary64 x (div binary64 one64 c.args.count)) c.loop-x.x-index c.args.out.now c.loop-x.invariant

pub returns : goal.returns
returns c = writes_done nan _ _ _ _ c.loop-x.invariant (omega arith) refl
