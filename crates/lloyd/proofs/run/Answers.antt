use Rattle.std.proofs.Common.{◌≡◌, ◌∙◌, refl, sym, arith, length}
use Rattle.lists.specs.Lists.{first_to}
use Rattle.lists.proofs.Listed.{listed_length}
use Rattle.lloyd.proofs.Rounds.{after_dists, after_labels, after_more, has_converged, go_on, kept_now, table_now}
use Rattle.lloyd_table.proofs.Rows.{held_kept}
use Rattle.lloyd.proofs.run.Goals as goal

pub loop-t-init : goal.loop-t-init
unfolding first_to
loop-t-init c = (refl, refl, c.requires.after)

pub returns-then-same_labels-clause-lloyd_result : goal.returns-then-same_labels-clause-lloyd_result
returns-then-same_labels-clause-lloyd_result c =
    let m = length c.args.labels.now in
    let v = c.loop-t.invariant in
    let f : length c.loop-t.fresh ≡ m = omega arith in
    let e = after_labels _ _ _ v.2 (rw f at c.assign_in.ensures.labels_after) in
    let g = listed_length _ _ e in
    has_converged _ m _ _ v.2 e (omega (arith, c.loop-t-test.true)) v.1 (sym (rw g at c.same_labels.ensures) ∙ c.if-same_labels.true)

pub refresh-requires-clause-held : goal.refresh-requires-clause-held
refresh-requires-clause-held c =
    let m = length c.args.labels.now in
    let g : length c.assign_in.new.labels ≡ m = omega arith in
    rw g (held_kept m c.loop-t.area c.args.area.now c.loop-t.auto.area c.loop-t.invariant.0 c.requires.held.0)

pub refresh-requires-clause-by_index : goal.refresh-requires-clause-by_index
refresh-requires-clause-by_index c =
    let m = length c.args.labels.now in
    let v = c.loop-t.invariant in
    let g : length c.assign_in.new.labels ≡ m = omega arith in
    rw g (λ l b. kept_now m c.args.area.now c.loop-t.area v.0 c.args.centres.now c.loop-t.t l c.loop-t.labels c.assign_in.new.labels b v.2)

pub loop-t-preserved : goal.loop-t-preserved
loop-t-preserved c =
    let m = length c.args.labels.now in
    let v = c.loop-t.invariant in
    let f : length c.loop-t.fresh ≡ m = omega arith in
    let g : length c.assign_in.new.labels ≡ m = omega arith in
    let e = after_labels _ _ _ v.2 (rw f at c.assign_in.ensures.labels_after) in
    let d = after_dists _ _ _ v.2 (rw f at c.assign_in.ensures.dists_after) in
    let r = table_now m c.args.area.now c.loop-t.area v.0 _ _ _ _ (rw g at c.refresh.ensures.table) in (
      (rw g at c.refresh.ensures.area_unchanged) ∙ v.0,
      go_on _ m _ _ v.2 e v.1 (sym (rw g at c.same_labels.ensures) ∙ c.if-same_labels.false),
      after_more _ m _ _ v.2 e d r c.copy.ensures.after,
    )
