use Prim.Native.Nat.{ℕ}
use mathlib.Core.Path.{◌∙◌, ◌≡◌}
use native.Mathlib.Omega.{arith}
use lib.ListN.{length}
use lib.Ieee.{Float}
use Rattle.lists.specs.Lists.{cells, row}
use Rattle.lists.proofs.Matrix.{row_long}
use Rattle.lloyd_nearest.proofs.Steps.{dists_more, dists_none, labels_more, labels_none}
use Rattle.lloyd_nearest.proofs.assign.Goals as goal

pub loop-l-init : goal.loop-l-init
loop-l-init c =
    let m = length c.args.labels.now in
    let f : ℕ → ℕ → Float = λ i j. cells (row c.args.table.now m j) i in
    (dists_none f m (c.fill.ensures.after (λ y e. e)) c.infinity.ensures c.requires.3, labels_none f m (c.fill-2.ensures.after (λ y e. e)))

pub loop-l-preserved : goal.loop-l-preserved
loop-l-preserved c =
    let m = length c.args.labels.now in
    let f : ℕ → ℕ → Float = λ i j. cells (row c.args.table.now m j) i in
    let q = row_long c.args.table.now m c.loop-l.l c.requires.2 (omega (arith, c.loop-l-test.true)) in
    let h = c.loop-l.invariant in (
      (rw (c.row_of.ensures, q) at c.absorb.ensures.dists_after) ∙ (dists_more f c.loop-l.l m h.0),
      (rw (c.row_of.ensures, q) at c.absorb.ensures.labels_after) ∙ (labels_more f c.loop-l.l m h.0 h.1),
    )

pub returns : goal.returns
returns c =
    let e : c.loop-l.l ≡ c.args.k = omega arith in
    record {
      dists_after = rw e at c.loop-l.invariant.0;
      labels_after = rw e at c.loop-l.invariant.1;
    }
