use mathlib.Core.Path.{◌≡◌}
use Rattle.lists.specs.Sums.{lesser, sum_to}
use Rattle.lists.specs.Lists.{cells}
use Rattle.plusplus_pick.proofs.two_least.Given as goal

abbrev pub invariant-loop-i : goal.invariant-loop-i
invariant-loop-i l = (l.first ≡ sum_to (λ k. lesser (cells l.a k) (cells l.weights k)) l.i) × (l.second ≡ sum_to (λ k. lesser (cells l.b k) (cells l.weights k)) l.i)
