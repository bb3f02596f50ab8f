use Prim.Native.Nat.{◌+◌}
use mathlib.Core.Path.{◌∙◌, ap}
use Rattle.test_intake.specs.Cases.{signed_from}
use Rattle.test_intake.proofs.Laws.{was_read}
use Rattle.test_intake.proofs.right_cells.Goals as goal

pub returns : goal.returns
returns c =
    was_read c.args.text.now c.args.at c.args.c (c.signed.ensures ∙ ap (signed_from c.args.text.now (c.args.at + 3)) c.requires.1) c.check_book-a.ensures (c.shown_answer.ensures ∙ c.same_answer-right.ensures)
