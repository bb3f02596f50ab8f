use mathlib.Core.Path.{◌≡◌}
use Rattle.lists.specs.Lists.{cells}
use Rattle.lists.specs.Sums.{sum_to}
use Rattle.plusplus_pick.specs.Potentials.{lesser_number}
use Rattle.plusplus_pick.proofs.potential.Given as goal

abbrev pub invariant-loop-i : goal.invariant-loop-i
invariant-loop-i l = l.sum ≡ sum_to (λ k. lesser_number (cells l.weights k) (cells l.squares k)) l.i
