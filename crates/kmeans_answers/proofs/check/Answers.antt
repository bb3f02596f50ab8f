use mathlib.Core.Path.{ap, refl}
use borrow.Author.Tests.{le-ltb, lt-ltb}
use Rattle.std.proofs.Common.{Ok, Err}
use Rattle.std.proofs.lemmas.Result.{err_from_is_err_and}
use Rattle.refusals.specs.Table.{whenever}
use Rattle.kmeans_answers.specs.Leaf.{leaf_refusal}
use Rattle.kmeans_answers.proofs.Laws.{above, below_is}
use Rattle.kmeans_answers.proofs.check.Goals as goal
use Rattle.kmeans_answers.proofs.check.Goals.{then-k-lt2-via-then-k-lt2, then-k-lt2-via-else-k-lt2+then-n-k}

pub returns-in_err-check : goal.returns-in_err-check
unfolding leaf_refusal
returns-in_err-check c =
    let p = err_from_is_err_and c.from_residual.result c.from_residual.ensures.1 in
    above c.from_residual.result c.in_err-check.field-0.0 _ (rw p.1 (ap Err p.2)) c.in_err-check.ensures

pub returns-then-k-lt2 : goal.returns-then-k-lt2
unfolding leaf_refusal whenever
returns-then-k-lt2 c =
    rw (below_is (Ok c.in_ok-check.field-0) _ c.in_ok-check.ensures refl)
    (elim c.then-k-lt2.branch [
      | then-k-lt2-via-then-k-lt2 w ↦ rw (lt-ltb _ _ w.if-k-lt2.true)
      | then-k-lt2-via-else-k-lt2+then-n-k w ↦ rw (le-ltb _ _ w.if-k-lt2.false, lt-ltb _ _ w.if-n-k.true)
    ])

pub returns-then-bad-count : goal.returns-then-bad-count
unfolding leaf_refusal whenever
returns-then-bad-count c =
    rw (below_is (Ok c.in_ok-check.field-0) _ c.in_ok-check.ensures refl, le-ltb _ _ c.if-k-lt2.false, le-ltb _ _ c.if-n-k.false, lt-ltb _ _ c.if-bad-count.true)

pub returns : goal.returns
unfolding leaf_refusal whenever
returns c =
    rw (below_is (Ok c.in_ok-check.field-0) _ c.in_ok-check.ensures refl, le-ltb _ _ c.if-k-lt2.false, le-ltb _ _ c.if-n-k.false, le-ltb _ _ c.if-bad-count.false)
