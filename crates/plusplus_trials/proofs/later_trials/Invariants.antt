use Prim.Native.Nat.{◌-◌, ◌≤◌}
use mathlib.Core.Path.{◌≡◌}
use lib.ListN.{drop, length}
use Rattle.draws.specs.Draws.{takes}
use Rattle.plusplus_pick.specs.Potentials.{limit}
use Rattle.plusplus_trials.specs.Trials.{against, table}
use Rattle.lists.specs.Lists.{cells}
use Rattle.plusplus_trials.proofs.later_trials.Given as goal

abbrev pub invariant-loop-i : goal.invariant-loop-i
invariant-loop-i l =
    (l.top ≡ limit l.total (length l.weights)) × (l.from ≤ l.i) × (l.i ≤ l.end)
    × (takes (limit l.total (length l.weights)) (against (table l.squares (length l.weights)) (cells l.weights) l.total (length l.weights)) l.more l.initial.b l.from (drop l.from l.draws)
    ≡ takes (limit l.total (length l.weights)) (against (table l.squares (length l.weights)) (cells l.weights) l.total (length l.weights)) (l.end - l.i) l.b l.i (drop l.i l.draws))

abbrev pub decreases-loop-i : goal.decreases-loop-i
decreases-loop-i l = l.end - l.i
