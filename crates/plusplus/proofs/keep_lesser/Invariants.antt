use mathlib.Core.Path.{◌≡◌}
use lib.ListN.{length}
use Rattle.lists.specs.Lists.{cells}
use Rattle.lists.proofs.Listed.{writes}
use Rattle.plusplus_pick.specs.Potentials.{lesser_number}
use Rattle.plusplus.proofs.keep_lesser.Given as goal

abbrev pub invariant-loop-i : goal.invariant-loop-i
invariant-loop-i l = (length l.weights ≡ length l.initial.weights) × (l.weights ≡ writes (λ k. lesser_number (cells l.initial.weights k) (cells l.squares k)) l.i l.initial.weights)
