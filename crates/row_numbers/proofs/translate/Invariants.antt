use mathlib.Core.Path.{◌≡◌}
use lib.ListN.{length}
use Rattle.lists.specs.Lists.{numbers}
use Rattle.lists.proofs.Listed.{writes}
use Rattle.row_numbers.proofs.translate.Given as goal

abbrev pub invariant-loop-i : goal.invariant-loop-i
invariant-loop-i l = (length l.out ≡ length l.locals) × (l.out ≡ writes (λ k. numbers l.rows (numbers l.locals k)) l.i l.initial.out)
