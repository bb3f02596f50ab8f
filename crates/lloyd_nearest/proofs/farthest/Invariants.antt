use mathlib.Core.Path.{◌≡◌}
use mathlib.Core.Bool.{false}
use Rattle.lists.specs.Lists.{cells}
use Rattle.lloyd_nearest.specs.Nearest.{farthest_to}
use Rattle.lloyd_nearest.proofs.farthest.Given as goal

abbrev pub invariant-loop-i : goal.invariant-loop-i
invariant-loop-i l = l.b ≡ farthest_to (λ k. false) (cells l.dists) l.i
