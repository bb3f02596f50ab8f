use Rattle.test_texts.proofs.Laws.{right_parts}
use Rattle.test_texts.proofs.right_case.Goals as goal

pub returns : goal.returns
returns c = right_parts c.args.cases.now c.args.c c.right_text.ensures
