use mathlib.Core.Path.{◌∙◌, ◌≡◌, ap}
use native.Mathlib.Omega.{arith}
use lib.ListN.{length}
use lib.Ieee.{neg}
use Rattle.lloyd_nearest.specs.Nearest.{farthest_to}
use Rattle.lloyd_nearest.proofs.Steps.{farthest_below, farthest_more}
use Rattle.lloyd_nearest.proofs.farthest.Goals as goal

pub loop-i-init : goal.loop-i-init
unfolding farthest_to neg
loop-i-init c = rw c.infinity.ensures

pub loop-i-preserved : goal.loop-i-preserved
loop-i-preserved c = c.farther-b.ensures ∙ farthest_more _ _ c.loop-i.invariant

pub returns : goal.returns
returns c =
    let e : c.loop-i.i ≡ length c.args.dists.now = omega arith in
    let q = rw e at c.loop-i.invariant in
    (ap (λ x. x.at) q, rw q (farthest_below _ _ _ _ (omega arith) c.requires))
