use lib.ListN.{length}
use Rattle.lists.specs.Lists.{numbers}
use Rattle.partition.proofs.Filling.{Grouped}
use Rattle.partition.proofs.groups_of.Given as goal

abbrev pub invariant-loop-l : goal.invariant-loop-l
invariant-loop-l l = Grouped (numbers l.labels) (length l.labels) l.l l.at l.count l.order l.sizes
