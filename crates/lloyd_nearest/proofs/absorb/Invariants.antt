use mathlib.Core.Path.{◌≡◌}
use mathlib.Core.Bool.{cond}
use lib.Ieee.{lt}
use Rattle.lists.specs.Lists.{cells, numbers}
use Rattle.lists.proofs.Listed.{writes}
use Rattle.lloyd_nearest.proofs.absorb.Given as goal

abbrev pub invariant-loop-i : goal.invariant-loop-i
invariant-loop-i l =
    (l.dists ≡ writes (λ k. cond (lt (cells l.row k) (cells l.initial.dists k)) (cells l.row k) (cells l.initial.dists k)) l.i l.initial.dists)
    × (l.labels ≡ writes (λ k. cond (lt (cells l.row k) (cells l.initial.dists k)) l.l (numbers l.initial.labels k)) l.i l.initial.labels)
