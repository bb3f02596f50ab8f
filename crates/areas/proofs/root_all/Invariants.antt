use Prim.Native.Nat.{◌*◌}
use mathlib.Core.Path.{◌≡◌}
use Rattle.distance_columns.specs.Pair.{pair_at}
use Rattle.lists.proofs.Areas.{area_to}
use Rattle.distance_columns.specs.Columns.{points_at}
use Rattle.areas.proofs.root_all.Given as goal

abbrev pub invariant-loop-i : goal.invariant-loop-i
invariant-loop-i l = l.area ≡ area_to (3 * (l.m * l.m)) (pair_at (points_at l.initial.area l.m) l.m) l.m l.i l.initial.area
