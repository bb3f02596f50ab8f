use mathlib.Core.Path.{◌≡◌, refl}
use native.Mathlib.Omega.{arith}
use lib.ListN.{length}
use Rattle.lists.specs.Lists.{cells, first_to}
use Rattle.lists.proofs.First.{first_more}
use Rattle.plusplus_pick.proofs.Picks.{over, reached_found, reached_none}
use Rattle.plusplus_pick.proofs.reached.Goals as goal

pub loop-i-init : goal.loop-i-init
unfolding first_to
loop-i-init c = (refl)

pub returns-then-s-x : goal.returns-then-s-x
returns-then-s-x c = reached_found (cells c.args.sums.now) c.args.x c.loop-i.i (length c.args.sums.now) c.loop-i.invariant c.if-s-x.true c.loop-i-test.true

pub loop-i-preserved : goal.loop-i-preserved
loop-i-preserved c = (first_more (over (cells c.args.sums.now) c.args.x) c.loop-i.i c.loop-i.invariant c.if-s-x.false)

pub returns : goal.returns
returns c =
    let e : c.loop-i.i ≡ length c.args.sums.now = omega arith in
    reached_none (cells c.args.sums.now) c.args.x (length c.args.sums.now) (rw e at c.loop-i.invariant)
