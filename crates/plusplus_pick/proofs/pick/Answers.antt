use mathlib.Core.Path.{◌∙◌}
use lib.Ieee.{of_bits}
use Rattle.plusplus_pick.specs.Potentials.{pick_by}
use Rattle.plusplus_pick.proofs.pick.Goals as goal

pub returns-then-total : goal.returns-then-total
unfolding pick_by of_bits
returns-then-total c = c.reached.ensures ∙ rw (c.if-total.true, c.share_of.ensures)

pub returns : goal.returns
unfolding pick_by of_bits
returns c = rw c.if-total.false
