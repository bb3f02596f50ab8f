use mathlib.Core.Path.{◌≡◌}
use Rattle.lists.specs.Lists.{cells, listed, row}
use Rattle.lloyd_nearest.specs.Nearest.{nearest_to}
use Rattle.lloyd_nearest.proofs.assign.Given as goal

abbrev pub invariant-loop-l : goal.invariant-loop-l
invariant-loop-l l =
    (l.dists ≡ listed (λ i. (nearest_to (λ j. cells (row l.table l.m j) i) l.l).value) l.m)
    × (l.labels ≡ listed (λ i. (nearest_to (λ j. cells (row l.table l.m j) i) l.l).at) l.m)
