use mathlib.Core.Path.{◌∙◌, ap, refl}
use native.Mathlib.Omega.{arith}
use lib.Ieee.{nan}
use Rattle.lists.specs.Lists.{cells}
use Rattle.lists.proofs.Listed.{writes, writes_done, writes_next, writes_one}
use Rattle.silhouette_scores.specs.Scores.{score_of}
use Rattle.silhouette_scores.proofs.finish.Goals as goal

pub loop-i-init : goal.loop-i-init
unfolding writes
loop-i-init c = refl

pub loop-i-preserved : goal.loop-i-preserved
loop-i-preserved c =
    let h = c.loop-i.invariant in
    writes_one _ _ _ h (c.score_of.ensures ∙ ap (score_of (cells c.args.own.now c.loop-i.i)) (writes_next nan _ _ _ h))

pub returns : goal.returns
returns c = writes_done nan _ _ _ _ c.loop-i.invariant (omega arith) refl
