use mathlib.Core.Path.{◌≡◌}
use lib.ListN.{length}
use Rattle.lists.specs.Lists.{listed, numbers}
use Rattle.partition.specs.Orders.{cut, total_to}
use Rattle.partition.proofs.Labels.{label_to}
use Rattle.partition.proofs.labels_from_clusters.Given as goal

abbrev pub invariant-loop-g : goal.invariant-loop-g
invariant-loop-g l = (l.at ≡ total_to (numbers l.sizes) l.g) × (length l.labels ≡ length l.sizes) × (l.labels ≡ listed (label_to (cut l.count l.sizes l.order) l.g) (length l.sizes))
