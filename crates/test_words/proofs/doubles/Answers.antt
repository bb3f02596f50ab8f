use mathlib.Core.Path.{refl, ◌∙◌, ap}
use native.Mathlib.Omega.{arith}
use lib.Ieee.{nan}
use Rattle.lists.proofs.Listed.{writes, writes_one, writes_done}
use Rattle.bits.specs.Bits.{double_of}
use Rattle.test_words.proofs.doubles.Goals as goal

pub loop-i-init : goal.loop-i-init
unfolding writes
loop-i-init c = refl

pub loop-i-preserved : goal.loop-i-preserved
loop-i-preserved c = writes_one _ _ _ c.loop-i.invariant (c.double_of.ensures ∙ ap double_of c.word_from.ensures)

pub returns : goal.returns
returns c = writes_done nan _ _ _ _ c.loop-i.invariant (omega arith) refl
