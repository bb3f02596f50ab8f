use mathlib.Core.Path.{refl}
use native.Mathlib.Omega.{arith}
use Rattle.test_counts.proofs.Counting.{counted_none, counted_more, counted_all}
use Rattle.test_texts.specs.Texts.{counts_in}
use Rattle.test_texts.proofs.run.Goals as goal

pub loop-at-init : goal.loop-at-init
loop-at-init c = (refl, counted_none _ _ _ _)

pub loop-at-preserved : goal.loop-at-preserved
loop-at-preserved c =
    let i = c.loop-at.invariant in
    let e = c.read_case-c.ensures in
    (i.0, counted_more _ _ _ _ i.1 c.loop-at-test.true e.0 (omega (arith, e.1)) c.right_case-right.ensures c.counted-counts.ensures)

pub returns : goal.returns
unfolding counts_in
returns c = counted_all _ _ _ _ c.loop-at.invariant.1 c.loop-at-test.false
