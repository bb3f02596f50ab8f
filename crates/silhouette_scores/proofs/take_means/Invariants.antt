use Prim.Native.Nat.{◌-◌}
use mathlib.Core.Path.{◌≡◌}
use lib.Ieee.{binary64, div}
use Rattle.lists.specs.Sums.{counted}
use Rattle.lists.specs.Lists.{cells, numbers}
use Rattle.lists.proofs.Listed.{writes}
use Rattle.silhouette_scores.specs.Groups.{at_members, mark_of}
use Rattle.silhouette_scores.proofs.take_means.Given as goal

abbrev pub invariant-loop-i : goal.invariant-loop-i
invariant-loop-i l =
    (l.sums ≡ writes (at_members (numbers l.labels) l.l (λ k. mark_of l.count) (cells l.initial.sums)) l.i l.initial.sums)
    × (l.own ≡ writes (at_members (numbers l.labels) l.l (λ k. div binary64 (cells l.initial.sums k) (counted (l.count - 1))) (cells l.initial.own)) l.i l.initial.own)
