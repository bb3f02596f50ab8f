use mathlib.Core.Path.{◌≡◌}
use Rattle.lists.proofs.Listed.{writes}
use Rattle.distance.specs.Distance.{cell_through}
use Rattle.distance.proofs.cell_row.Given as goal

abbrev pub invariant-loop-j : goal.invariant-loop-j
invariant-loop-j l = l.out ≡ writes (cell_through l.book l.n l.rows l.i) l.j l.initial.out
