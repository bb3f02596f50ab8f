use mathlib.Core.Path.{◌≡◌, refl, sym}
use native.Mathlib.Omega.{arith}
use lib.ListN.{length}
use Rattle.lists.specs.Sums.{all_to}
use Rattle.test_compared.specs.Compared.{left_numbers}
use Rattle.lists.proofs.Sums.{all_fails, all_more}
use Rattle.test_words.proofs.Values.{differ_at, same_at}
use Rattle.test_compared.proofs.left_numbers.Goals as goal

pub loop-i-init : goal.loop-i-init
unfolding all_to
loop-i-init c = refl

pub returns-then-x-left_at : goal.returns-then-x-left_at
unfolding left_numbers
returns-then-x-left_at c = all_fails _ _ c.loop-i.i (omega arith) (differ_at refl c.left_at.ensures c.if-x-left_at.true)

pub loop-i-preserved : goal.loop-i-preserved
loop-i-preserved c = all_more _ _ c.loop-i.invariant (same_at refl c.left_at.ensures c.if-x-left_at.false)

pub returns : goal.returns
unfolding left_numbers
returns c = let e : c.loop-i.i ≡ length c.args.numbers.now = omega arith in sym (rw e at c.loop-i.invariant)
