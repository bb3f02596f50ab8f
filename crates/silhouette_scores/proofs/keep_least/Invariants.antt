use mathlib.Core.Path.{◌≡◌}
use lib.Ieee.{binary64, div}
use Rattle.lists.specs.Sums.{counted, lesser}
use Rattle.lists.specs.Lists.{cells}
use Rattle.lists.proofs.Listed.{writes}
use Rattle.silhouette_scores.proofs.keep_least.Given as goal

abbrev pub invariant-loop-i : goal.invariant-loop-i
invariant-loop-i l = l.least ≡ writes (λ k. lesser (div binary64 (cells l.sums k) (counted l.count)) (cells l.initial.least k)) l.i l.initial.least
