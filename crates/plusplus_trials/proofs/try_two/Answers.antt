use Prim.Native.Nat.{◌<◌}
use mathlib.Core.Path.{◌∙◌, ◌≡◌}
use native.Mathlib.Omega.{arith}
use lib.ListN.{length}
use Rattle.plusplus_pick.specs.Potentials.{pick, running}
use Rattle.lists.specs.Lists.{cells}
use Rattle.lists.proofs.Matrix.{row_long}
use Rattle.plusplus_pick.proofs.Picks.{pick_below, pick_summed, summed_length}
use Rattle.plusplus_trials.proofs.try_two.Goals as goal
use Rattle.plusplus_trials.proofs.try_two.Goals.{After-pick-p, After-pick-q}

-- the picks, and that they are items
picked : (c : After-pick-p) → c.pick-p.result ≡ pick (cells c.args.weights.now) c.args.total (length c.args.weights.now) c.args.c
picked c = c.pick-p.ensures ∙ pick_summed c.args.sums.now c.args.weights.now c.args.total c.args.c c.requires.weighed.1

below : (c : After-pick-p) → c.pick-p.result < length c.args.weights.now
below c = rw (picked c) (pick_below (running (cells c.args.weights.now)) c.args.total (length c.args.weights.now) c.args.c c.requires.weighed.0.some c.requires.c_bound.0)

picked-2 : (c : After-pick-q) → c.pick-q.result ≡ pick (cells c.args.weights.now) c.args.total (length c.args.weights.now) c.args.d
picked-2 c = c.pick-q.ensures ∙ pick_summed c.args.sums.now c.args.weights.now c.args.total c.args.d c.requires.weighed.1

below-2 : (c : After-pick-q) → c.pick-q.result < length c.args.weights.now
below-2 c = rw (picked-2 c) (pick_below (running (cells c.args.weights.now)) c.args.total (length c.args.weights.now) c.args.d c.requires.weighed.0.some c.requires.c_bound.1)

pub pick-p-requires : goal.pick-p-requires
pick-p-requires c = rw (summed_length c.args.sums.now c.args.weights.now c.requires.weighed.1) (c.requires.weighed.0.some, c.requires.c_bound.0)

pub pick-q-requires : goal.pick-q-requires
pick-q-requires c = rw (summed_length c.args.sums.now c.args.weights.now c.requires.weighed.1) (c.requires.weighed.0.some, c.requires.c_bound.1)

pub row_of-requires : goal.row_of-requires
row_of-requires c = let p = c.requires.weighed.0 in (p.few, omega (arith, p.square), below (goal.at.row_of-requires c).After-pick-p)

pub row_of-requires-2 : goal.row_of-requires-2
row_of-requires-2 c = let p = c.requires.weighed.0 in (p.few, omega (arith, p.square), below-2 (goal.at.row_of-requires-2 c).After-pick-q)

pub two_potentials-x-requires : goal.two_potentials-x-requires
two_potentials-x-requires c =
    let n = length c.args.weights.now in
    (rw c.row_of.ensures (row_long c.args.squares.now n c.pick-p.result (omega (arith, c.requires.weighed.0.square)) (below (goal.at.two_potentials-x-requires c).After-pick-p)), rw c.row_of-2.ensures (row_long c.args.squares.now n c.pick-q.result (omega (arith, c.requires.weighed.0.square)) (below-2 (goal.at.two_potentials-x-requires c).After-pick-q)), c.requires.weighed.2)

pub returns : goal.returns
returns c =
    let e = c.two_potentials-x.ensures in
    (rw (e.0, c.row_of.ensures, picked (goal.at.returns c).After-pick-p), rw (e.1, c.row_of-2.ensures, picked-2 (goal.at.returns c).After-pick-q))
