use mathlib.Core.Path.{◌≡◌}
use Rattle.lists.specs.Lists.{flat}
use Rattle.lists.proofs.Listed.{writes}
use Rattle.test_intake.specs.Cases.{made_cell}
use Rattle.test_intake.proofs.make_book.Given as goal

abbrev pub invariant-loop-t : goal.invariant-loop-t
invariant-loop-t l = l.cells ≡ writes (flat made_cell l.n) l.t l.initial.cells
