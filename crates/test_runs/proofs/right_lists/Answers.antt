use Rattle.test_compared.specs.Compared.{seven}
use Rattle.lists.proofs.Refilled.{buffer_front}
use Rattle.test_runs.proofs.Laws.{lent}
use Rattle.test_runs.proofs.right_lists.Goals as goal

pub returns : goal.returns
returns c = lent c.args.text.now c.args.c c.args.cells.now c.args.draws.now (buffer_front _ 16 999 c.filled-order.ensures c.requires.1) (buffer_front _ 16 999 c.filled-sizes.ensures c.requires.2) (buffer_front _ 16 seven c.filled-scores.ensures c.requires.3) (buffer_front _ 256 seven c.filled-ordered.ensures c.requires.6) c.right_worked.ensures
