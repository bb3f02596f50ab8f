use Rattle.std.proofs.lemmas.Result.{err_from_is_err_and}
use Prim.Native.Nat.{◌*◌, ◌+◌, ◌-◌, ℕ}
use mathlib.Core.Path.{◌∙◌, ◌≡◌}
use native.Mathlib.Omega.{arith}
use lib.ListN.{length}
use Rattle.round.proofs.Openings.{area_beyond, open_part, opened_law, opened_sized, started_law, stopped_law}
use Rattle.round.proofs.start_with.Goals as goal

pub find_weak-weak-requires : goal.find_weak-weak-requires
find_weak-weak-requires c =
    let m : ℕ = length c.args.order.now in
    let lo : length c.cluster_kmeans_base.new.order ≡ m = c.cluster_kmeans_base.auto.order in
    let lz : length c.cluster_kmeans_base.new.sizes ≡ m = c.cluster_kmeans_base.auto.sizes ∙ c.requires.1 in
    let lq : length c.cluster_kmeans_base.new.scores ≡ m = c.cluster_kmeans_base.auto.scores ∙ c.requires.2 in
    let b = opened_law _ _ _ _ _ _ _ _ _ c.requires.0 c.in_ok-based.based.groups c.in_ok-based.based.source (rw c.in_ok-based.was at c.cluster_kmeans_base.ensures) in
    let lw : length c.store_base.new.wi ≡ length c.args.wi.now = c.store_base.auto.wi in
    (opened_sized _ _ _ _ _ _ _ _ _ c.requires.0 _ _ _ _ _ b lo lq, omega (arith, lq, c.requires.0.reads.items), c.requires.0.reads.few, omega (arith, lw, c.requires.0.room))

pub returns-in_err-based : goal.returns-in_err-based
returns-in_err-based c =
    let m : ℕ = length c.args.order.now in
    let k : ℕ = c.args.left * c.args.n + 5 * (m * m) - c.args.left * c.args.n in
    let ek : k ≡ 5 * (m * m) = omega arith in
    let la : length c.cluster_kmeans_base.new.area ≡ k = c.cluster_kmeans_base.auto.area ∙ open_part _ _ _ _ _ _ _ _ _ c.requires.0 k ek in
    let y = err_from_is_err_and c.from_residual.result c.from_residual.ensures.1 in
    rw (y.1, y.2) (stopped_law _ _ _ _ _ _ _ _ _ c.requires.0 k c.cluster_kmeans_base.new.area ek la _ (rw c.in_err-based.was at c.cluster_kmeans_base.ensures))

pub returns : goal.returns
returns c =
    let m : ℕ = length c.args.order.now in
    let k : ℕ = c.args.left * c.args.n + 5 * (m * m) - c.args.left * c.args.n in
    let ek : k ≡ 5 * (m * m) = omega arith in
    let la : length c.cluster_kmeans_base.new.area ≡ k = c.cluster_kmeans_base.auto.area ∙ open_part _ _ _ _ _ _ _ _ _ c.requires.0 k ek in
    let lo : length c.cluster_kmeans_base.new.order ≡ m = c.cluster_kmeans_base.auto.order in
    let lz : length c.cluster_kmeans_base.new.sizes ≡ m = c.cluster_kmeans_base.auto.sizes ∙ c.requires.1 in
    let lq : length c.cluster_kmeans_base.new.scores ≡ m = c.cluster_kmeans_base.auto.scores ∙ c.requires.2 in
    let b = opened_law _ _ _ _ _ _ _ _ _ c.requires.0 c.in_ok-based.based.groups c.in_ok-based.based.source (rw c.in_ok-based.was at c.cluster_kmeans_base.ensures) in
    started_law _ _ _ _ _ _ _ _ _ c.requires.0 _ _ _ _ _ b lo lq _ _ _ _ _ _ (area_beyond _ _ _ _ _ _ _ _ _ c.requires.0 k c.cluster_kmeans_base.new.area ek la) c.store_base.ensures c.find_weak-weak.ensures
