use Prim.Native.Nat.{◌*◌}
use mathlib.Core.Path.{◌≡◌}
use Rattle.distance_columns.specs.Pair.{squared_at}
use Rattle.distance_columns.specs.Columns.{points_at}
use Rattle.lists.proofs.Areas.{area_to}
use Rattle.areas.proofs.square_rows.Given as goal

abbrev pub invariant-loop-i : goal.invariant-loop-i
invariant-loop-i l = l.area ≡ area_to (2 * (l.m * l.m)) (squared_at (points_at l.initial.area l.m) l.m) l.m l.i l.initial.area
