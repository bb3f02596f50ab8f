use mathlib.Core.Path.{◌≡◌}
use Rattle.lists.specs.Sums.{square_from, sum_to}
use Rattle.distance.specs.Distance.{dist_at}
use Rattle.distance_squared.proofs.squared_between.Given as goal

abbrev pub invariant-loop-c : goal.invariant-loop-c
invariant-loop-c l = l.sum ≡ sum_to (λ k. square_from (dist_at l.book l.n l.rows l.j k) (dist_at l.book l.n l.rows l.i k)) l.c
