use mathlib.Core.Path.{◌≡◌}
use Rattle.lists.specs.Lists.{numbers, first_to}
use Rattle.lists.specs.Sums.{in_group}
use Rattle.lloyd_members.proofs.first_member.Given as goal

abbrev pub invariant-loop-i : goal.invariant-loop-i
invariant-loop-i l = first_to (in_group (numbers l.labels) l.l) l.i ≡ l.i
