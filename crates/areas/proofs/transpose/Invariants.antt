use Prim.Native.Nat.{◌*◌}
use mathlib.Core.Path.{◌≡◌}
use Rattle.lists.proofs.Areas.{area_to}
use Rattle.distance_columns.specs.Columns.{points_at}
use Rattle.areas.proofs.transpose.Given as goal

abbrev pub invariant-loop-i : goal.invariant-loop-i
invariant-loop-i l = l.area ≡ area_to (l.m * l.m) (λ a b. points_at l.initial.area l.m b a) l.m l.i l.initial.area
