use Rattle.test_examples.proofs.Laws.{were_read}
use Rattle.test_examples.proofs.right_case.Goals as goal

pub returns : goal.returns
returns c = were_read c.args.text.now c.args.at c.args.c c.doubles_at-a.ensures.1 c.doubles_at-b.ensures.1 c.numbers_at-rows.ensures.1 c.right_lists.ensures
