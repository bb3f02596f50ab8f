use Rattle.test_seeds.proofs.Laws.{were_read}
use Rattle.test_seeds.proofs.right_case.Goals as goal

pub returns : goal.returns
returns c = were_read c.args.text.now c.args.at c.args.c c.doubles_at-cells.ensures.1 c.word_from-seed.ensures c.right_lists.ensures
