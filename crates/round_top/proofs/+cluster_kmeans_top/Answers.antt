use Rattle.std.proofs.lemmas.Result.{err_from_is_err_and}
use Prim.Native.Nat.{◌-◌, ◌<◌}
use mathlib.Core.Path.{sym}
use native.Mathlib.Omega.{arith}
use Rattle.round_top.proofs.Rounding.{level_pos, none_law, refused_law, started_law, kept_law, w_few, in_len, in_sizes, in_scores, inner_ready, stopped_law, inner_law, inner_ended_law, done_law}
use Rattle.round_top.proofs.+cluster_kmeans_top.Goals as goal

pub returns-then-left-eq0 : goal.returns-then-left-eq0
returns-then-left-eq0 t c = none_law _ _ _ _ _ _ _ _ _ _ _ c.requires c.if-left-eq0.true

pub returns-then-start-le2 : goal.returns-then-start-le2
returns-then-start-le2 t c =
    let s = started_law _ _ _ _ _ _ _ _ _ _ _ c.requires c.if-left-eq0.false _ _ _ c.start_round.ensures c.in_ok-start.start.groups c.in_ok-start.start.weak c.in_ok-start.start.items c.in_ok-start.start.source c.in_ok-start.was in
    kept_law _ _ _ _ _ _ _ _ _ _ _ c.requires c.if-left-eq0.false _ _ _ c.start_round.ensures _ _ _ _ s _ _ _ c.if-start-le2.true c.keep.ensures.0 c.keep.ensures.1 c.keep.ensures.2

pub slice_bounds-cluster_kmeans_top-end : goal.slice_bounds-cluster_kmeans_top-end
slice_bounds-cluster_kmeans_top-end t c =
    let s = started_law _ _ _ _ _ _ _ _ _ _ _ c.requires c.if-left-eq0.false _ _ _ c.start_round.ensures c.in_ok-start.start.groups c.in_ok-start.start.weak c.in_ok-start.start.items c.in_ok-start.start.source c.in_ok-start.was in
    w_few _ _ _ _ _ _ _ _ _ _ _ c.requires c.if-left-eq0.false _ _ _ c.start_round.ensures c.in_ok-start.start.groups c.in_ok-start.start.weak c.in_ok-start.start.items c.in_ok-start.start.source s c.if-start-le2.false c.start_round.auto.wi c.start_round.auto.wf

pub slice_bounds-cluster_kmeans_top-end-2 : goal.slice_bounds-cluster_kmeans_top-end-2
slice_bounds-cluster_kmeans_top-end-2 t c =
    let s = started_law _ _ _ _ _ _ _ _ _ _ _ c.requires c.if-left-eq0.false _ _ _ c.start_round.ensures c.in_ok-start.start.groups c.in_ok-start.start.weak c.in_ok-start.start.items c.in_ok-start.start.source c.in_ok-start.was in
    sym (in_len _ _ _ _ _ _ _ _ _ _ _ c.requires c.if-left-eq0.false _ _ _ c.start_round.ensures c.in_ok-start.start.groups c.in_ok-start.start.weak c.in_ok-start.start.items c.in_ok-start.start.source s c.if-start-le2.false c.start_round.auto.wi c.start_round.auto.wf)

pub slice_bounds-cluster_kmeans_top-end-3 : goal.slice_bounds-cluster_kmeans_top-end-3
slice_bounds-cluster_kmeans_top-end-3 t c =
    let s = started_law _ _ _ _ _ _ _ _ _ _ _ c.requires c.if-left-eq0.false _ _ _ c.start_round.ensures c.in_ok-start.start.groups c.in_ok-start.start.weak c.in_ok-start.start.items c.in_ok-start.start.source c.in_ok-start.was in
    omega (arith, w_few _ _ _ _ _ _ _ _ _ _ _ c.requires c.if-left-eq0.false _ _ _ c.start_round.ensures c.in_ok-start.start.groups c.in_ok-start.start.weak c.in_ok-start.start.items c.in_ok-start.start.source s c.if-start-le2.false c.start_round.auto.wi c.start_round.auto.wf, c.requires.same_sizes)

pub slice_bounds-cluster_kmeans_top-end-4 : goal.slice_bounds-cluster_kmeans_top-end-4
slice_bounds-cluster_kmeans_top-end-4 t c =
    let s = started_law _ _ _ _ _ _ _ _ _ _ _ c.requires c.if-left-eq0.false _ _ _ c.start_round.ensures c.in_ok-start.start.groups c.in_ok-start.start.weak c.in_ok-start.start.items c.in_ok-start.start.source c.in_ok-start.was in
    sym (in_sizes _ _ _ _ _ _ _ _ _ _ _ c.requires c.if-left-eq0.false _ _ _ c.start_round.ensures c.in_ok-start.start.groups c.in_ok-start.start.weak c.in_ok-start.start.items c.in_ok-start.start.source s c.if-start-le2.false c.start_round.auto.wi c.start_round.auto.wf)

pub slice_bounds-cluster_kmeans_top-end-5 : goal.slice_bounds-cluster_kmeans_top-end-5
slice_bounds-cluster_kmeans_top-end-5 t c =
    let s = started_law _ _ _ _ _ _ _ _ _ _ _ c.requires c.if-left-eq0.false _ _ _ c.start_round.ensures c.in_ok-start.start.groups c.in_ok-start.start.weak c.in_ok-start.start.items c.in_ok-start.start.source c.in_ok-start.was in
    omega (arith, w_few _ _ _ _ _ _ _ _ _ _ _ c.requires c.if-left-eq0.false _ _ _ c.start_round.ensures c.in_ok-start.start.groups c.in_ok-start.start.weak c.in_ok-start.start.items c.in_ok-start.start.source s c.if-start-le2.false c.start_round.auto.wi c.start_round.auto.wf, c.requires.same_scores)

pub slice_bounds-cluster_kmeans_top-end-6 : goal.slice_bounds-cluster_kmeans_top-end-6
slice_bounds-cluster_kmeans_top-end-6 t c =
    let s = started_law _ _ _ _ _ _ _ _ _ _ _ c.requires c.if-left-eq0.false _ _ _ c.start_round.ensures c.in_ok-start.start.groups c.in_ok-start.start.weak c.in_ok-start.start.items c.in_ok-start.start.source c.in_ok-start.was in
    sym (in_scores _ _ _ _ _ _ _ _ _ _ _ c.requires c.if-left-eq0.false _ _ _ c.start_round.ensures c.in_ok-start.start.groups c.in_ok-start.start.weak c.in_ok-start.start.items c.in_ok-start.start.source s c.if-start-le2.false c.start_round.auto.wi c.start_round.auto.wf)

pub cluster_kmeans_top-requires : goal.cluster_kmeans_top-requires
cluster_kmeans_top-requires t c =
    let s = started_law _ _ _ _ _ _ _ _ _ _ _ c.requires c.if-left-eq0.false _ _ _ c.start_round.ensures c.in_ok-start.start.groups c.in_ok-start.start.weak c.in_ok-start.start.items c.in_ok-start.start.source c.in_ok-start.was in
    let fall : c.args.left - 1 < t = omega (arith, level_pos c.args.left c.if-left-eq0.false) in
    (fall, inner_ready _ _ _ _ _ _ _ _ _ _ _ c.requires c.if-left-eq0.false _ _ _ c.start_round.ensures c.in_ok-start.start.groups c.in_ok-start.start.weak c.in_ok-start.start.items c.in_ok-start.start.source s c.if-start-le2.false c.start_round.auto.wi c.start_round.auto.wf)

pub end_round-g-requires : goal.end_round-g-requires
end_round-g-requires t c =
    let s = started_law _ _ _ _ _ _ _ _ _ _ _ c.requires c.if-left-eq0.false _ _ _ c.start_round.ensures c.in_ok-start.start.groups c.in_ok-start.start.weak c.in_ok-start.start.items c.in_ok-start.start.source c.in_ok-start.was in
    let q = inner_law _ _ _ _ _ _ _ _ _ _ _ c.requires c.if-left-eq0.false _ _ _ c.start_round.ensures c.in_ok-start.start.groups c.in_ok-start.start.weak c.in_ok-start.start.items c.in_ok-start.start.source s c.if-start-le2.false c.start_round.auto.wi c.start_round.auto.wf c.cluster_kmeans_top.result c.cluster_kmeans_top.new.order c.cluster_kmeans_top.new.sizes c.cluster_kmeans_top.new.scores c.cluster_kmeans_top.new.wi c.cluster_kmeans_top.new.wf c.cluster_kmeans_top.ensures c.cluster_kmeans_top.auto.order c.cluster_kmeans_top.auto.sizes c.cluster_kmeans_top.auto.scores c.cluster_kmeans_top.auto.wi c.cluster_kmeans_top.auto.wf c.in_ok-inner.inner.groups c.in_ok-inner.inner.read c.in_ok-inner.was in
    inner_ended_law _ _ _ _ _ _ _ _ _ _ _ c.requires c.if-left-eq0.false _ _ _ c.start_round.ensures c.in_ok-start.start.groups c.in_ok-start.start.weak c.in_ok-start.start.items c.in_ok-start.start.source s c.if-start-le2.false c.start_round.auto.wi c.start_round.auto.wf c.cluster_kmeans_top.result c.cluster_kmeans_top.new.order c.cluster_kmeans_top.new.sizes c.cluster_kmeans_top.new.scores c.cluster_kmeans_top.new.wi c.cluster_kmeans_top.new.wf c.cluster_kmeans_top.ensures c.cluster_kmeans_top.auto.order c.cluster_kmeans_top.auto.sizes c.cluster_kmeans_top.auto.scores c.cluster_kmeans_top.auto.wi c.cluster_kmeans_top.auto.wf _ _ q

pub returns-in_err-start : goal.returns-in_err-start
returns-in_err-start t c =
    let y = err_from_is_err_and c.from_residual.result c.from_residual.ensures.1 in
    rw (y.1, y.2) (refused_law _ _ _ _ _ _ _ _ _ _ _ c.requires c.if-left-eq0.false _ _ _ c.start_round.ensures _ c.in_err-start.was)

pub returns-in_err-inner : goal.returns-in_err-inner
returns-in_err-inner t c =
    let s = started_law _ _ _ _ _ _ _ _ _ _ _ c.requires c.if-left-eq0.false _ _ _ c.start_round.ensures c.in_ok-start.start.groups c.in_ok-start.start.weak c.in_ok-start.start.items c.in_ok-start.start.source c.in_ok-start.was in
    let y = err_from_is_err_and c.from_residual-in_err-inner.result c.from_residual-in_err-inner.ensures.1 in
    rw (y.1, y.2) (stopped_law _ _ _ _ _ _ _ _ _ _ _ c.requires c.if-left-eq0.false _ _ _ c.start_round.ensures c.in_ok-start.start.groups c.in_ok-start.start.weak c.in_ok-start.start.items c.in_ok-start.start.source s c.if-start-le2.false c.start_round.auto.wi c.start_round.auto.wf c.cluster_kmeans_top.result c.cluster_kmeans_top.new.order c.cluster_kmeans_top.new.sizes c.cluster_kmeans_top.new.scores c.cluster_kmeans_top.new.wi c.cluster_kmeans_top.new.wf c.cluster_kmeans_top.ensures c.cluster_kmeans_top.auto.order c.cluster_kmeans_top.auto.sizes c.cluster_kmeans_top.auto.scores c.cluster_kmeans_top.auto.wi c.cluster_kmeans_top.auto.wf _ c.in_err-inner.was)

pub returns : goal.returns
returns t c =
    let s = started_law _ _ _ _ _ _ _ _ _ _ _ c.requires c.if-left-eq0.false _ _ _ c.start_round.ensures c.in_ok-start.start.groups c.in_ok-start.start.weak c.in_ok-start.start.items c.in_ok-start.start.source c.in_ok-start.was in
    let q = inner_law _ _ _ _ _ _ _ _ _ _ _ c.requires c.if-left-eq0.false _ _ _ c.start_round.ensures c.in_ok-start.start.groups c.in_ok-start.start.weak c.in_ok-start.start.items c.in_ok-start.start.source s c.if-start-le2.false c.start_round.auto.wi c.start_round.auto.wf c.cluster_kmeans_top.result c.cluster_kmeans_top.new.order c.cluster_kmeans_top.new.sizes c.cluster_kmeans_top.new.scores c.cluster_kmeans_top.new.wi c.cluster_kmeans_top.new.wf c.cluster_kmeans_top.ensures c.cluster_kmeans_top.auto.order c.cluster_kmeans_top.auto.sizes c.cluster_kmeans_top.auto.scores c.cluster_kmeans_top.auto.wi c.cluster_kmeans_top.auto.wf c.in_ok-inner.inner.groups c.in_ok-inner.inner.read c.in_ok-inner.was in
    done_law _ _ _ _ _ _ _ _ _ _ _ c.requires c.if-left-eq0.false _ _ _ c.start_round.ensures c.in_ok-start.start.groups c.in_ok-start.start.weak c.in_ok-start.start.items c.in_ok-start.start.source s c.if-start-le2.false c.start_round.auto.wi c.start_round.auto.wf c.cluster_kmeans_top.result c.cluster_kmeans_top.new.order c.cluster_kmeans_top.new.sizes c.cluster_kmeans_top.new.scores c.cluster_kmeans_top.new.wi c.cluster_kmeans_top.new.wf c.cluster_kmeans_top.ensures c.cluster_kmeans_top.auto.order c.cluster_kmeans_top.auto.sizes c.cluster_kmeans_top.auto.scores c.cluster_kmeans_top.auto.wi c.cluster_kmeans_top.auto.wf _ _ q _ _ _ _ _ c.end_round-g.ensures
