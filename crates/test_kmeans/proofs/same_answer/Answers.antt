use mathlib.Core.Path.{◌∙◌, ap}
use Rattle.test_compared.specs.Compared.{same_numbers}
use Rattle.test_kmeans.specs.Cases.{same_answer}
use Rattle.test_kmeans.proofs.same_answer.Goals as goal

pub returns : goal.returns
unfolding same_answer
returns c = c.same_numbers.ensures ∙ ap (same_numbers _ _) c.answer_of-answer.ensures
