use mathlib.Core.Path.{◌∙◌}
use Rattle.test_examples.specs.Cases.{same_outcome}
use Rattle.test_examples.proofs.same_outcome.Goals as goal

pub returns : goal.returns
unfolding same_outcome
returns c = rw (← c.number_of.ensures, ← c.place_of.ensures) (c.shown.ensures ∙ c.same_values-right.ensures)
