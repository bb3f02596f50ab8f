use Rattle.test_runs.proofs.Laws.{were_read}
use Rattle.test_runs.proofs.right_case.Goals as goal

pub returns : goal.returns
returns c = were_read c.args.text.now c.args.at c.args.c c.doubles_at-cells.ensures.1 c.draws_at-draws.ensures.1 c.right_lists.ensures
