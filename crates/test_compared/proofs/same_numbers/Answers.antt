use mathlib.Core.Path.{◌≡◌, refl, sym}
use native.Mathlib.Omega.{arith}
use lib.ListN.{length}
use Rattle.lists.specs.Sums.{all_to}
use Rattle.test_compared.specs.Compared.{same_numbers}
use Rattle.lists.proofs.Sums.{all_fails, all_more}
use Rattle.test_words.proofs.Values.{differ_at, same_at}
use Rattle.test_compared.proofs.same_numbers.Goals as goal

pub loop-i-init : goal.loop-i-init
unfolding all_to
loop-i-init c = refl

pub returns-then-x-word_from : goal.returns-then-x-word_from
unfolding same_numbers
returns-then-x-word_from c = all_fails _ _ c.loop-i.i (omega arith) (differ_at refl c.word_from.ensures c.if-x-word_from.true)

pub loop-i-preserved : goal.loop-i-preserved
loop-i-preserved c = all_more _ _ c.loop-i.invariant (same_at refl c.word_from.ensures c.if-x-word_from.false)

pub returns : goal.returns
unfolding same_numbers
returns c = let e : c.loop-i.i ≡ length c.args.xs.now = omega arith in sym (rw e at c.loop-i.invariant)
