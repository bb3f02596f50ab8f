use Prim.Native.Nat.{◌<◌}
use mathlib.Core.Path.{◌∙◌, ◌≡◌}
use native.Mathlib.Omega.{arith}
use lib.ListN.{length}
use Rattle.plusplus_pick.specs.Potentials.{pick, running}
use Rattle.lists.specs.Lists.{cells}
use Rattle.lists.proofs.Matrix.{row_long}
use Rattle.plusplus_pick.proofs.Picks.{pick_below, pick_summed, summed_length}
use Rattle.plusplus_trials.proofs.try_draw.Goals as goal
use Rattle.plusplus_trials.proofs.try_draw.Goals.{After-pick-p}

-- the pick, and that it is an item
picked : (c : After-pick-p) → c.pick-p.result ≡ pick (cells c.args.weights.now) c.args.total (length c.args.weights.now) c.args.d
picked c = c.pick-p.ensures ∙ pick_summed c.args.sums.now c.args.weights.now c.args.total c.args.d c.requires.weighed.1

below : (c : After-pick-p) → c.pick-p.result < length c.args.weights.now
below c = rw (picked c) (pick_below (running (cells c.args.weights.now)) c.args.total (length c.args.weights.now) c.args.d c.requires.weighed.0.some c.requires.d_bound)

pub pick-p-requires : goal.pick-p-requires
pick-p-requires c = rw (summed_length c.args.sums.now c.args.weights.now c.requires.weighed.1) (c.requires.weighed.0.some, c.requires.d_bound)

pub row_of-requires : goal.row_of-requires
row_of-requires c = let p = c.requires.weighed.0 in (p.few, omega (arith, p.square), below (goal.at.row_of-requires c).After-pick-p)

pub potential-x-requires : goal.potential-x-requires
potential-x-requires c = rw c.row_of.ensures (row_long c.args.squares.now (length c.args.weights.now) c.pick-p.result (omega (arith, c.requires.weighed.0.square)) (below (goal.at.potential-x-requires c).After-pick-p))

pub returns : goal.returns
returns c =
    let e = c.potential-x.ensures in
    rw (e, c.row_of.ensures, picked (goal.at.returns c).After-pick-p)
