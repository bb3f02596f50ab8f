use Rattle.test_compared.specs.Compared.{seven}
use Rattle.lists.proofs.Refilled.{buffer_front}
use Rattle.test_kmeans.proofs.Laws.{lent}
use Rattle.test_kmeans.proofs.right_list.Goals as goal

pub returns : goal.returns
returns c = lent c.args.text.now c.args.c c.args.points.now c.args.draws.now c.args.centres.now (buffer_front _ 64 999 c.filled-out.ensures c.requires.0) (buffer_front _ 6400 seven c.filled-floats.ensures c.requires.1) (buffer_front _ 5400 999 c.filled-numbers.ensures c.requires.2) c.right_lists.ensures
