use mathlib.Core.Path.{◌≡◌}
use lib.Dec.{ltb}
use Rattle.intake.specs.Intake.{cause_at}
use Rattle.lists.specs.Lists.{first_to}
use Rattle.intake.proofs.check_cells.Given as goal

abbrev pub invariant-loop-t : goal.invariant-loop-t
invariant-loop-t l = first_to (λ j. ltb 0 (cause_at l.cells l.n j)) l.t ≡ l.t
