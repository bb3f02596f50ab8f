use mathlib.Core.Path.{◌≡◌}
use lib.ListN.{length}
use Rattle.lists.specs.Sums.{square_from, sum_to}
use Rattle.lists.specs.Lists.{cells}
use Rattle.distance_squared.proofs.squared_distance.Given as goal

abbrev pub invariant-loop-x : goal.invariant-loop-x
invariant-loop-x l = l.sum ≡ sum_to (λ k. square_from (cells l.b k) (cells l.a k)) (length l.yielded)
