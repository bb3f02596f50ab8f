use mathlib.Core.Path.{◌≡◌}
use lib.ListN.{length}
use Rattle.lists.specs.Sums.{group_size}
use Rattle.lists.specs.Lists.{listed, numbers}
use Rattle.lloyd_members.proofs.group_sizes.Given as goal

abbrev pub invariant-loop-l : goal.invariant-loop-l
invariant-loop-l l = l.sizes ≡ listed (group_size (numbers l.labels) l.l-index) (length l.fn.sizes)
