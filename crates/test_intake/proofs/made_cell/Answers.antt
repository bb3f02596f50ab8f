use Rattle.test_intake.proofs.Laws.{made_one, made_other}
use Rattle.test_intake.proofs.made_cell.Goals as goal

pub returns-then-i-j : goal.returns-then-i-j
returns-then-i-j c = made_one c.args.i c.args.j c.if-i-j.true

pub returns : goal.returns
returns c = made_other c.args.i c.args.j c.requires.0 c.requires.1 c.if-i-j.false
