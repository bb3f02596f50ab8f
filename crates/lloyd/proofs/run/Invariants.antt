use Prim.Native.Nat.{◌*◌}
use mathlib.Core.Path.{◌≡◌}
use lib.ListN.{length, take}
use Rattle.lloyd_pass.specs.Passes.{converges_at}
use Rattle.lists.specs.Lists.{first_to, numbers}
use Rattle.distance_columns.specs.Columns.{points_at}
use Rattle.lloyd.specs.Result.{After}
use Rattle.lloyd.proofs.run.Given as goal

abbrev pub invariant-loop-t : goal.invariant-loop-t
invariant-loop-t l =
    let m = length l.initial.labels in
    (take (4 * (m * m)) l.area ≡ take (4 * (m * m)) l.initial.area)
    × (first_to (converges_at (points_at l.initial.area m) m (length l.centres) (numbers l.centres)) l.t ≡ l.t)
    × After (points_at l.initial.area m) m l.centres l.t l.labels l.area
