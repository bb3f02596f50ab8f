use Prim.Native.Nat.{◌+◌}
use mathlib.Core.Path.{◌≡◌}
use lib.ListN.{length}
use Rattle.lists.specs.Lists.{numbers, put}
use Rattle.partition.specs.Partition.{members}
use Rattle.partition.proofs.append_members.Given as goal

abbrev pub invariant-loop-i : goal.invariant-loop-i
invariant-loop-i l =
    (length l.order ≡ length l.initial.order) × (l.to ≡ l.at + length (members (numbers l.labels) l.i l.l))
    × (l.order ≡ put l.at (length (members (numbers l.labels) l.i l.l)) l.initial.order (members (numbers l.labels) l.i l.l))
