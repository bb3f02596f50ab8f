use mathlib.Core.Path.{◌≡◌, refl, sym}
use native.Mathlib.Omega.{arith}
use lib.ListN.{length}
use Rattle.lists.specs.Sums.{all_to}
use Rattle.lists.proofs.Sums.{all_more, all_fails}
use Rattle.test_words.proofs.Values.{differ_at, same_at}
use Rattle.test_compared.specs.Compared.{left_doubles}
use Rattle.test_compared.proofs.left_doubles.Goals as goal

pub loop-i-init : goal.loop-i-init
unfolding all_to
loop-i-init c = refl

pub returns-then-bits_of-left_at : goal.returns-then-bits_of-left_at
unfolding left_doubles
returns-then-bits_of-left_at c = all_fails _ _ c.loop-i.i (omega arith) (differ_at c.bits_of.ensures c.left_at.ensures c.if-bits_of-left_at.true)

pub loop-i-preserved : goal.loop-i-preserved
loop-i-preserved c = all_more _ _ c.loop-i.invariant (same_at c.bits_of.ensures c.left_at.ensures c.if-bits_of-left_at.false)

pub returns : goal.returns
unfolding left_doubles
returns c = let e : c.loop-i.i ≡ length c.args.floats.now = omega arith in sym (rw e at c.loop-i.invariant)
