use Prim.Native.Nat.{ℕ}
use mathlib.Core.Path.{◌∙◌, ◌≡◌, refl, sym}
use native.Mathlib.Omega.{arith}
use lib.ListN.{length}
use lib.Ieee.{Float}
use Rattle.distance.specs.Distance.{dist_at}
use Rattle.improve_merge.proofs.Laws.{merged_parted, parts}
use Rattle.improve.proofs.Laws.{improves}
use Rattle.improve.proofs.improve_clusters.Goals as goal

pub rescore-requires : goal.rescore-requires
rescore-requires c =
    let q = merged_parted c.merge-groups.ensures (parts (length c.args.scores.now) c.args.count c.args.order.now c.args.sizes.now c.args.scores.now c.args.items.now c.args.inner c.args.inner_order.now c.args.inner_sizes.now c.requires.3) c.requires.3.base.sized.few in
    record {
      readable = c.requires.0;
      some = omega (arith, c.requires.1, c.requires.3.any);
      groups = rw c.requires.1 q;
      size = c.requires.2;
      labels_long = refl;
      scores_long = c.requires.6 ∙ sym c.requires.1;
    }

pub mean_quality-mean-requires : goal.mean_quality-mean-requires
mean_quality-mean-requires c =
    let q = merged_parted c.merge-groups.ensures (parts (length c.args.scores.now) c.args.count c.args.order.now c.args.sizes.now c.args.scores.now c.args.items.now c.args.inner c.args.inner_order.now c.args.inner_sizes.now c.requires.3) c.requires.3.base.sized.few in
    let l : length c.rescore.new.scores ≡ length c.args.scores.now = c.rescore.auto.scores ∙ c.requires.6 in
    rw l q.sized

pub returns : goal.returns
returns c =
    let x : ℕ → ℕ → Float = dist_at c.args.book.now c.args.n c.args.rows.now in
    rw c.requires.1 (improves x c.merge-groups.ensures (parts (length c.args.scores.now) c.args.count c.args.order.now c.args.sizes.now c.args.scores.now c.args.items.now c.args.inner c.args.inner_order.now c.args.inner_sizes.now c.requires.3) (rw c.requires.1 at c.rescore.ensures) c.mean_quality-mean.ensures)
