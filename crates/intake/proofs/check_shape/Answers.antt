use borrow.Author.Tests.{eq-eqb, ne_eqb}
use Rattle.refusals.specs.Table.{unless}
use Rattle.intake.proofs.check_shape.Goals as goal

pub returns-then-rows-cols : goal.returns-then-rows-cols
unfolding unless
returns-then-rows-cols c = rw (ne_eqb _ _ c.if-rows-cols.true)

pub returns : goal.returns
unfolding unless
returns c = rw (eq-eqb _ _ c.if-rows-cols.false) c.check.ensures
