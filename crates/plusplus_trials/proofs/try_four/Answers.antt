use Prim.Native.Nat.{◌<◌}
use mathlib.Core.Path.{◌∙◌, ◌≡◌}
use native.Mathlib.Omega.{arith}
use lib.ListN.{length}
use Rattle.plusplus_pick.specs.Potentials.{pick, running}
use Rattle.lists.specs.Lists.{cells}
use Rattle.lists.proofs.Matrix.{row_long}
use Rattle.plusplus_pick.proofs.Picks.{pick_below, pick_summed, summed_length}
use Rattle.plusplus_trials.proofs.try_four.Goals as goal
use Rattle.plusplus_trials.proofs.try_four.Goals.{After-pick-p, After-pick-q, After-pick-s, After-pick-t}

-- the picks, and that they are items
picked : (c : After-pick-p) → c.pick-p.result ≡ pick (cells c.args.weights.now) c.args.total (length c.args.weights.now) c.args.c
picked c = c.pick-p.ensures ∙ pick_summed c.args.sums.now c.args.weights.now c.args.total c.args.c c.requires.weighed.1

below : (c : After-pick-p) → c.pick-p.result < length c.args.weights.now
below c = rw (picked c) (pick_below (running (cells c.args.weights.now)) c.args.total (length c.args.weights.now) c.args.c c.requires.weighed.0.some c.requires.c_bound.0)

picked-2 : (c : After-pick-q) → c.pick-q.result ≡ pick (cells c.args.weights.now) c.args.total (length c.args.weights.now) c.args.d
picked-2 c = c.pick-q.ensures ∙ pick_summed c.args.sums.now c.args.weights.now c.args.total c.args.d c.requires.weighed.1

below-2 : (c : After-pick-q) → c.pick-q.result < length c.args.weights.now
below-2 c = rw (picked-2 c) (pick_below (running (cells c.args.weights.now)) c.args.total (length c.args.weights.now) c.args.d c.requires.weighed.0.some c.requires.c_bound.1)

picked-3 : (c : After-pick-s) → c.pick-s.result ≡ pick (cells c.args.weights.now) c.args.total (length c.args.weights.now) c.args.e
picked-3 c = c.pick-s.ensures ∙ pick_summed c.args.sums.now c.args.weights.now c.args.total c.args.e c.requires.weighed.1

below-3 : (c : After-pick-s) → c.pick-s.result < length c.args.weights.now
below-3 c = rw (picked-3 c) (pick_below (running (cells c.args.weights.now)) c.args.total (length c.args.weights.now) c.args.e c.requires.weighed.0.some c.requires.c_bound.2)

picked-4 : (c : After-pick-t) → c.pick-t.result ≡ pick (cells c.args.weights.now) c.args.total (length c.args.weights.now) c.args.f
picked-4 c = c.pick-t.ensures ∙ pick_summed c.args.sums.now c.args.weights.now c.args.total c.args.f c.requires.weighed.1

below-4 : (c : After-pick-t) → c.pick-t.result < length c.args.weights.now
below-4 c = rw (picked-4 c) (pick_below (running (cells c.args.weights.now)) c.args.total (length c.args.weights.now) c.args.f c.requires.weighed.0.some c.requires.c_bound.3)

pub pick-p-requires : goal.pick-p-requires
pick-p-requires c = rw (summed_length c.args.sums.now c.args.weights.now c.requires.weighed.1) (c.requires.weighed.0.some, c.requires.c_bound.0)

pub pick-q-requires : goal.pick-q-requires
pick-q-requires c = rw (summed_length c.args.sums.now c.args.weights.now c.requires.weighed.1) (c.requires.weighed.0.some, c.requires.c_bound.1)

pub pick-s-requires : goal.pick-s-requires
pick-s-requires c = rw (summed_length c.args.sums.now c.args.weights.now c.requires.weighed.1) (c.requires.weighed.0.some, c.requires.c_bound.2)

pub pick-t-requires : goal.pick-t-requires
pick-t-requires c = rw (summed_length c.args.sums.now c.args.weights.now c.requires.weighed.1) (c.requires.weighed.0.some, c.requires.c_bound.3)

pub row_of-requires : goal.row_of-requires
row_of-requires c = let p = c.requires.weighed.0 in (p.few, omega (arith, p.square), below (goal.at.row_of-requires c).After-pick-p)

pub row_of-requires-2 : goal.row_of-requires-2
row_of-requires-2 c = let p = c.requires.weighed.0 in (p.few, omega (arith, p.square), below-2 (goal.at.row_of-requires-2 c).After-pick-q)

pub row_of-requires-3 : goal.row_of-requires-3
row_of-requires-3 c = let p = c.requires.weighed.0 in (p.few, omega (arith, p.square), below-3 (goal.at.row_of-requires-3 c).After-pick-s)

pub row_of-requires-4 : goal.row_of-requires-4
row_of-requires-4 c = let p = c.requires.weighed.0 in (p.few, omega (arith, p.square), below-4 (goal.at.row_of-requires-4 c).After-pick-t)

pub four_potentials-x-requires : goal.four_potentials-x-requires
four_potentials-x-requires c =
    let m = length c.args.weights.now in (
      rw c.row_of.ensures (row_long c.args.squares.now m c.pick-p.result (omega (arith, c.requires.weighed.0.square)) (below (goal.at.four_potentials-x-requires c).After-pick-p)),
      rw c.row_of-2.ensures (row_long c.args.squares.now m c.pick-q.result (omega (arith, c.requires.weighed.0.square)) (below-2 (goal.at.four_potentials-x-requires c).After-pick-q)),
      rw c.row_of-3.ensures (row_long c.args.squares.now m c.pick-s.result (omega (arith, c.requires.weighed.0.square)) (below-3 (goal.at.four_potentials-x-requires c).After-pick-s)),
      rw c.row_of-4.ensures (row_long c.args.squares.now m c.pick-t.result (omega (arith, c.requires.weighed.0.square)) (below-4 (goal.at.four_potentials-x-requires c).After-pick-t)),
      c.requires.weighed.2,
    )

pub returns : goal.returns
returns c =
    let e = c.four_potentials-x.ensures in
    (rw (e.0, c.row_of.ensures, picked (goal.at.returns c).After-pick-p), rw (e.1, c.row_of-2.ensures, picked-2 (goal.at.returns c).After-pick-q), rw (e.2, c.row_of-3.ensures, picked-3 (goal.at.returns c).After-pick-s), rw (e.3, c.row_of-4.ensures, picked-4 (goal.at.returns c).After-pick-t))
