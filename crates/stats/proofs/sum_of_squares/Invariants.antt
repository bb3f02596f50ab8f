use mathlib.Core.Path.{◌≡◌}
use Rattle.lists.specs.Lists.{cells}
use Rattle.lists.specs.Sums.{sum_to, square_from}
use Rattle.stats.proofs.sum_of_squares.Given as goal

abbrev pub invariant-loop-x : goal.invariant-loop-x
invariant-loop-x l = l.sum ≡ sum_to (λ j. square_from l.m (cells l.values j)) l.x-index
