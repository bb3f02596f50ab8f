use mathlib.Core.Path.{refl}
use native.Mathlib.Omega.{arith}
use Rattle.lists.proofs.Listed.{writes, writes_one, writes_done}
use Rattle.test_words.proofs.numbers.Goals as goal

pub loop-i-init : goal.loop-i-init
unfolding writes
loop-i-init c = refl

pub loop-i-preserved : goal.loop-i-preserved
loop-i-preserved c = writes_one _ _ _ c.loop-i.invariant c.word_from.ensures

pub returns : goal.returns
returns c = writes_done 0 _ _ _ _ c.loop-i.invariant (omega arith) refl
