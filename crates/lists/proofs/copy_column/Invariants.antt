use Rattle.std.proofs.Common.{◌≡◌, ◌≤◌, length}
use Rattle.lists.specs.Lists.{cell_at}
use Rattle.lists.proofs.Listed.{writes}
use Rattle.lists.proofs.copy_column.Given as goal

abbrev pub invariant-loop-j : goal.invariant-loop-j
invariant-loop-j l = (l.j ≤ l.n) × (length l.out ≡ l.n) × (l.out ≡ writes (λ t. cell_at l.from l.n t l.i) l.j l.initial.out)
