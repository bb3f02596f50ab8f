use mathlib.Core.Path.{◌≡◌}
use Rattle.lists.specs.Lists.{numbers}
use Rattle.test_words.specs.Words.{value_to}
use Rattle.test_words.proofs.hex_value.Given as goal

abbrev pub invariant-loop-b : goal.invariant-loop-b
invariant-loop-b l = l.value ≡ value_to (numbers l.digits) l.b-index
