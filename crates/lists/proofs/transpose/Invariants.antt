use Rattle.std.proofs.Common.{◌≡◌, ◌*◌, ◌≤◌, length}
use Rattle.lists.specs.Lists.{cell_at}
use Rattle.lists.proofs.Matrix.{rows_to}
use Rattle.lists.proofs.transpose.Given as goal

abbrev pub invariant-loop-i : goal.invariant-loop-i
invariant-loop-i l = (l.i ≤ l.n) × (length l.out ≡ l.n * l.n) × (length l.initial.out ≡ l.n * l.n) × (l.out ≡ rows_to (λ r j. cell_at l.from l.n j r) l.n l.i l.initial.out)
