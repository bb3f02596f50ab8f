use mathlib.Core.Path.{◌≡◌}
use lib.Ieee.{add, binary64}
use Rattle.lists.specs.Lists.{cells}
use Rattle.lists.proofs.Listed.{writes}
use Rattle.silhouette_scores.proofs.add_others.Given as goal

abbrev pub invariant-loop-i : goal.invariant-loop-i
invariant-loop-i l = l.sums ≡ writes (λ k. add binary64 (cells l.initial.sums k) (cells l.row k)) l.i l.initial.sums
