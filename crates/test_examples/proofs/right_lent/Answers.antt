use Rattle.test_compared.specs.Compared.{seven}
use Rattle.lists.proofs.Refilled.{buffer_front}
use Rattle.test_examples.proofs.Laws.{lent}
use Rattle.test_examples.proofs.right_lent.Goals as goal

pub returns : goal.returns
returns c = lent c.args.text.now c.args.c c.args.a.now c.args.rows.now (buffer_front _ 144 seven c.filled-out.ensures c.requires.0) (buffer_front _ 8192 seven c.filled-floats.ensures c.requires.1) c.right_leaf.ensures
