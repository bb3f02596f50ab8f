use mathlib.Core.Path.{◌≡◌}
use Rattle.lists.specs.Lists.{cells}
use Rattle.lists.proofs.Listed.{writes}
use Rattle.distance_columns.specs.Columns.{added_four}
use Rattle.distance_columns.proofs.add_four.Given as goal

abbrev pub invariant-loop-j : goal.invariant-loop-j
invariant-loop-j l = l.sums ≡ writes (λ k. added_four (cells l.initial.sums k) (cells l.a k) (cells l.b k) (cells l.c k) (cells l.d k) l.w l.x l.y l.z) l.j l.initial.sums
