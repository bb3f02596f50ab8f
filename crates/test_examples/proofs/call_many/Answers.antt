use mathlib.Core.Path.{◌∙◌, ap}
use Rattle.lists.proofs.Refilled.{buffer_front}
use Rattle.test_examples.specs.Cases.{average_of, measured_by, half}
use Rattle.test_examples.proofs.Laws.{average_refused}
use Rattle.test_examples.proofs.call_many.Goals as goal

pub returns-then-n-gt65537 : goal.returns-then-n-gt65537
returns-then-n-gt65537 c = rw (average_refused c.args.which c.args.n c.if-n-gt65537.true)

pub returns : goal.returns
returns c = c.of_average.ensures ∙ ap measured_by (c.average.ensures ∙ ap (average_of c.args.which 0) (buffer_front _ 65537 half c.filled-values.ensures c.if-n-gt65537.false))
