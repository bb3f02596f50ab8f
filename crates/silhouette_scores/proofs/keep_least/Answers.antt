use mathlib.Core.Path.{◌∙◌, ap, refl}
use native.Mathlib.Omega.{arith}
use lib.Ieee.{Float, binary64, div, nan}
use Rattle.lists.specs.Sums.{counted, lesser}
use Rattle.lists.specs.Lists.{cells}
use Rattle.lists.proofs.Listed.{writes, writes_done, writes_next, writes_one}
use Rattle.silhouette_scores.proofs.keep_least.Goals as goal

pub loop-i-init : goal.loop-i-init
unfolding writes
loop-i-init c = refl

pub loop-i-preserved : goal.loop-i-preserved
loop-i-preserved c =
    let h = c.loop-i.invariant in
    writes_one _ _ _ h
    (c.lesser.ensures ∙ ap (λ (x : Float). lesser (div binary64 (cells c.args.sums.now c.loop-i.i) x) (cells c.loop-i.least c.loop-i.i)) c.count_as_f64-c.ensures
    ∙ ap (λ (x : Float). lesser (div binary64 (cells c.args.sums.now c.loop-i.i) (counted c.args.count)) x) (writes_next nan _ _ _ h))

pub returns : goal.returns
returns c = writes_done nan _ _ _ _ c.loop-i.invariant (omega arith) refl
