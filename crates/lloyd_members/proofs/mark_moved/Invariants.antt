use mathlib.Core.Path.{◌≡◌}
use lib.ListN.{length}
use Rattle.lloyd_members.specs.Members.{moved_mark}
use Rattle.lists.specs.Lists.{listed}
use Rattle.lloyd_members.proofs.mark_moved.Given as goal

abbrev pub invariant-loop-i : goal.invariant-loop-i
invariant-loop-i l = l.marks ≡ listed (moved_mark l.old l.labels l.i) (length l.fn.marks)
