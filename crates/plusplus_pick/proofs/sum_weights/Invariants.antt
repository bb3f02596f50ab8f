use mathlib.Core.Path.{◌≡◌}
use lib.ListN.{length}
use Rattle.plusplus_pick.specs.Potentials.{running}
use Rattle.lists.specs.Sums.{sum_to}
use Rattle.lists.specs.Lists.{cells}
use Rattle.lists.proofs.Listed.{writes}
use Rattle.plusplus_pick.proofs.sum_weights.Given as goal

abbrev pub invariant-loop-i : goal.invariant-loop-i
invariant-loop-i l = (length l.sums ≡ length l.weights) × (l.sum ≡ sum_to (cells l.weights) l.i) × (l.sums ≡ writes (running (cells l.weights)) l.i l.initial.sums)
