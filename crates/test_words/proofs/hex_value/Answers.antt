use mathlib.Core.Path.{refl}
use Rattle.test_words.specs.Words.{value_to}
use Rattle.test_words.proofs.Values.{value_more}
use Rattle.test_words.proofs.hex_value.Goals as goal

pub loop-b-init : goal.loop-b-init
unfolding value_to
loop-b-init c = refl

pub loop-b-preserved : goal.loop-b-preserved
loop-b-preserved c = value_more _ _ c.loop-b.invariant c.with_digit-value.ensures
