use mathlib.Core.Path.{◌≡◌}
use Rattle.lists.specs.Lists.{cells}
use Rattle.lists.proofs.Listed.{writes}
use Rattle.distance_columns.specs.Columns.{added}
use Rattle.distance_columns.proofs.add_column.Given as goal

abbrev pub invariant-loop-j : goal.invariant-loop-j
invariant-loop-j l = (l.sums ≡ writes (λ k. added (cells l.initial.sums k) (cells l.column k) l.x) l.j l.initial.sums)
