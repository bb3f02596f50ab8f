use mathlib.Core.Path.{◌≡◌}
use Rattle.lists.proofs.Matrix.{rows_to}
use Rattle.distance.specs.Distance.{cell_through}
use Rattle.distance.proofs.fill_cells.Given as goal

abbrev pub invariant-loop-i : goal.invariant-loop-i
invariant-loop-i l = l.out ≡ rows_to (cell_through l.book l.n l.rows) l.m l.i l.initial.out
