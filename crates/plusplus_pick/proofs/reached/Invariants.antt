use mathlib.Core.Path.{◌≡◌}
use Rattle.lists.specs.Lists.{cells, first_to}
use Rattle.plusplus_pick.proofs.Picks.{over}
use Rattle.plusplus_pick.proofs.reached.Given as goal

abbrev pub invariant-loop-i : goal.invariant-loop-i
invariant-loop-i l = first_to (over (cells l.sums) l.x) l.i ≡ l.i
