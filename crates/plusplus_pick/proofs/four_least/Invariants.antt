use mathlib.Core.Path.{◌≡◌}
use Rattle.lists.specs.Sums.{lesser, sum_to}
use Rattle.lists.specs.Lists.{cells}
use Rattle.plusplus_pick.proofs.four_least.Given as goal

abbrev pub invariant-loop-i : goal.invariant-loop-i
invariant-loop-i l = (l.p ≡ sum_to (λ k. lesser (cells l.a k) (cells l.weights k)) l.i) × (l.q ≡ sum_to (λ k. lesser (cells l.b k) (cells l.weights k)) l.i) × (l.s ≡ sum_to (λ k. lesser (cells l.c k) (cells l.weights k)) l.i) × (l.t ≡ sum_to (λ k. lesser (cells l.d k) (cells l.weights k)) l.i)
