use mathlib.Core.Path.{◌≡◌}
use lib.ListN.{length}
use Rattle.partition.proofs.Labels.{labelled}
use Rattle.partition.proofs.label_members.Given as goal

abbrev pub invariant-loop-i : goal.invariant-loop-i
invariant-loop-i l = (length l.labels ≡ length l.initial.labels) × (l.labels ≡ labelled l.members l.g l.initial.labels l.i-index)
