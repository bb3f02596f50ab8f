use lib.Ieee.{neg}
use Rattle.lists.proofs.Floats.{finite_below, finite_not_below}
use Rattle.lists.proofs.is_finite.Goals as goal

pub returns-then-x-top : goal.returns-then-x-top
unfolding neg
returns-then-x-top c = rw c.infinity-top.ensures (finite_below _ (rw c.infinity-top.ensures at c.if-x-top.true))

pub returns-else-x-top : goal.returns-else-x-top
returns-else-x-top c = finite_not_below _ (rw c.infinity-top.ensures at c.if-x-top.false)
