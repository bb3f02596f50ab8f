use mathlib.Core.Path.{◌≡◌}
use Rattle.distance.specs.Distance.{dist_at}
use Rattle.lists.proofs.Listed.{writes}
use Rattle.distance.proofs.distance_row.Given as goal

abbrev pub invariant-loop-j : goal.invariant-loop-j
invariant-loop-j l = l.out ≡ writes (dist_at l.book l.n l.rows l.i) l.j l.initial.out
