use lib.ListN.{length}
use mathlib.Core.Path.{◌≡◌}
use Rattle.lists.specs.Sums.{group_size}
use Rattle.lists.specs.Lists.{listed, numbers}
use Rattle.silhouette_scores.proofs.Members.{sums_to}
use Rattle.silhouette_scores.proofs.add_members.Given as goal

abbrev pub invariant-loop-j : goal.invariant-loop-j
invariant-loop-j l = (l.sums ≡ listed (sums_to l.across l.labels l.l l.j) (length l.labels)) × (l.count ≡ group_size (numbers l.labels) l.j l.l)
