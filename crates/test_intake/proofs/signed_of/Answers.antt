use mathlib.Core.Path.{◌∙◌, sym}
use mir.Syntax.{w64}
use mir.ValLaws.{to_z_pos}
use Rattle.test_intake.proofs.Laws.{high_signed, signed_low}
use Rattle.test_intake.proofs.signed_of.Goals as goal

pub returns-then-word-lt9223372036854775808 : goal.returns-then-word-lt9223372036854775808
returns-then-word-lt9223372036854775808 c = to_z_pos w64 c.args.word c.if-word-lt9223372036854775808.true ∙ sym (signed_low c.args.word c.if-word-lt9223372036854775808.true)

pub returns : goal.returns
returns c = high_signed c.args.word c.if-word-lt9223372036854775808.false
