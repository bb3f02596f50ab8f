use mathlib.Core.Path.{◌≡◌}
use lib.ListN.{length}
use Rattle.lists.specs.Sums.{sum_if, in_group}
use Rattle.lists.specs.Lists.{cell_at, listed, numbers}
use Rattle.lloyd_mean.proofs.sum_members.Given as goal

abbrev pub invariant-loop-i : goal.invariant-loop-i
invariant-loop-i l = l.out ≡ listed (λ j. sum_if (in_group (numbers l.labels) l.l) (λ k. cell_at l.points (length l.labels) k j) l.i) (length l.labels)
