use mathlib.Core.Path.{◌∙◌}
use Rattle.test_texts.proofs.Laws.{same_is}
use Rattle.test_texts.proofs.same_bytes.Goals as goal

pub returns : goal.returns
returns c = c.eq.ensures ∙ same_is c.args.a.now c.args.b.now
