use mathlib.Core.Path.{◌∙◌, ap, refl}
use native.Mathlib.Omega.{arith}
use lib.Ieee.{Float, binary64, div, nan}
use borrow.Author.Tests.{eq-eqb, ne_eqb}
use Rattle.lists.specs.Lists.{cells}
use Rattle.lists.proofs.Listed.{writes, writes_done, writes_keep, writes_next, writes_one}
use Rattle.silhouette_scores.proofs.take_means.Goals as goal

pub loop-i-init : goal.loop-i-init
unfolding writes
loop-i-init c = (refl, refl)

pub loop-i-preserved-then-x-l : goal.loop-i-preserved-then-x-l
loop-i-preserved-then-x-l c =
    let h = c.loop-i.invariant in
    (writes_keep nan _ _ _ h.0 (rw (ne_eqb _ _ c.if-x-l.true)), writes_keep nan _ _ _ h.1 (rw (ne_eqb _ _ c.if-x-l.true)))

pub loop-i-preserved : goal.loop-i-preserved
loop-i-preserved c =
    let h = c.loop-i.invariant in (
      writes_one _ _ _ h.0 (c.mark_of-mark.ensures ∙ rw (eq-eqb _ _ c.if-x-l.false)),
      writes_one _ _ _ h.1 (ap (λ (x : Float). div binary64 x c.count_as_f64-others.result) (writes_next nan _ _ _ h.0) ∙ ap (λ (x : Float). div binary64 (cells c.args.sums.now c.loop-i.i) x) c.count_as_f64-others.ensures ∙ rw (eq-eqb _ _ c.if-x-l.false)),
    )

pub returns : goal.returns
returns c = record {
  own_after = writes_done nan _ _ _ _ c.loop-i.invariant.1 (omega arith) c.requires.2;
  sums_after = writes_done nan _ _ _ _ c.loop-i.invariant.0 (omega arith) c.requires.1;
}
