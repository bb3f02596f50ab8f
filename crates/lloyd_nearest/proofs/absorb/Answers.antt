use mathlib.Core.Path.{◌∙◌, refl}
use native.Mathlib.Omega.{arith}
use lib.Ieee.{nan}
use Rattle.lists.proofs.Listed.{writes, writes_done, writes_next, writes_one}
use Rattle.lloyd_nearest.proofs.absorb.Goals as goal

pub loop-i-init : goal.loop-i-init
unfolding writes
loop-i-init c = (refl, refl)

pub loop-i-preserved : goal.loop-i-preserved
loop-i-preserved c =
    let d = c.loop-i.invariant.0 in
    let e = c.loop-i.invariant.1 in (
      writes_one _ _ _ d (c.lesser.ensures ∙ rw (writes_next nan _ _ _ d)),
      writes_one _ _ _ e (c.label_of.ensures ∙ rw (writes_next nan _ _ _ d, writes_next 0 _ _ _ e)),
    )

pub returns : goal.returns
returns c = record {
  dists_after = writes_done nan _ _ _ _ c.loop-i.invariant.0 (omega arith) (omega arith);
  labels_after = writes_done 0 _ _ _ _ c.loop-i.invariant.1 (omega arith) (omega arith);
}
