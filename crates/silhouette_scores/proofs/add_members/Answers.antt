use lib.ListN.{replicate}
use Prim.Native.Nat.{◌+◌, ℕ}
use mathlib.Core.Path.{◌∙◌, ap, refl, sym}
use native.Mathlib.Omega.{arith}
use lib.Ieee.{of_bits}
use lib.Dec.{eqb}
use borrow.Author.Tests.{eq-eqb, ne_eqb}
use Rattle.lists.specs.Sums.{fold_if, zero64}
use Rattle.lists.specs.Lists.{numbers}
use Rattle.lists.proofs.Sums.{count-le, fold_in, fold_out}
use Rattle.silhouette_scores.proofs.Members.{sums_add, sums_none, sums_skip}
use Rattle.silhouette_scores.proofs.add_members.Goals as goal

pub loop-j-init : goal.loop-j-init
unfolding fold_if of_bits
loop-j-init c =
    let e = c.fill.ensures.after (λ y e. e) ∙ ap (λ (x : ℕ). replicate x zero64) c.requires.sums_len in
    (sums_none c.args.across.now c.args.labels.now c.args.l e, refl)

pub loop-j-preserved-then-x-l : goal.loop-j-preserved-then-x-l
loop-j-preserved-then-x-l c =
    let h = c.loop-j.invariant in
    (sums_skip c.args.across.now c.args.labels.now c.args.l c.loop-j.j h.0 c.if-x-l.true, h.1 ∙ sym (fold_out (λ t. eqb (numbers c.args.labels.now t) c.args.l) _ _ _ (ne_eqb _ _ c.if-x-l.true)))

pub overflow_add-count : goal.overflow_add-count
overflow_add-count c = omega (arith, c.loop-j.invariant.1, count-le (λ t. eqb (numbers c.args.labels.now t) c.args.l) c.loop-j.j)

pub loop-j-preserved : goal.loop-j-preserved
loop-j-preserved c =
    let h = c.loop-j.invariant in (
      sums_add c.args.across.now c.args.labels.now c.args.l c.loop-j.j h.0 c.if-x-l.false c.loop-j-test.true c.row_of-row.ensures c.add_others.ensures,
      ap (λ (x : ℕ). x + 1) h.1 ∙ sym (fold_in (λ t. eqb (numbers c.args.labels.now t) c.args.l) _ _ _ (eq-eqb _ _ c.if-x-l.false)),
    )
