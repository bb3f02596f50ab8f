use Rattle.test_compared.specs.Compared.{seven}
use Rattle.lists.proofs.Refilled.{buffer_front}
use Rattle.test_seeds.proofs.Laws.{lent_working}
use Rattle.test_seeds.proofs.right_worked.Goals as goal

pub returns : goal.returns
returns c = lent_working c.args.text.now c.args.c c.args.cells.now c.args.seed c.args.order.now c.args.sizes.now c.args.scores.now c.args.ordered.now (buffer_front _ 4400 seven c.filled-floats.ensures c.requires.4) (buffer_front _ 4000 999 c.filled-numbers.ensures c.requires.5) c.right_run.ensures
