use Rattle.test_kmeans.proofs.Laws.{were_read}
use Rattle.test_kmeans.proofs.right_case.Goals as goal

pub returns : goal.returns
returns c = were_read c.args.text.now c.args.at c.args.c c.doubles_at-points.ensures.1 c.draws_at-draws.ensures.1 c.numbers_at-centres.ensures.1 c.right_list.ensures
