use Rattle.std.proofs.Common.{◌∙◌}
use Rattle.lloyd.proofs.Rounds.{after_none, after_now, clustered_now}
use Rattle.lloyd_table.proofs.Rows.{held_kept}
use Rattle.lloyd.proofs.lloyd_with.Goals as goal

pub run-requires : goal.run-requires
run-requires c =
    let m = c.args.m in
    let p = c.requires in
    let a = c.first_table.new.area in
    let b = c.args.area.now in
    let e = c.fill.auto.self ∙ p.centres.1 in
    record {
      held = rw e (held_kept m a b c.first_table.auto.area c.first_table.ensures.area_unchanged p.held, p.centres.0);
      fresh_len = rw e p.fresh_len;
      after = rw e (after_now m b a c.first_table.ensures.area_unchanged c.args.centres.now c.fill.new.self (after_none _ m _ (rw p.centres.1 at (c.fill.ensures.after (λ y e. e))) c.first_table.ensures.by_index));
    }

pub returns : goal.returns
returns c =
    let e = c.fill.auto.self ∙ c.requires.centres.1 in
    record {
      lloyd_result = clustered_now c.args.m c.args.area.now c.first_table.new.area c.first_table.ensures.area_unchanged (rw e at c.run.ensures.lloyd_result);
      area_unchanged = (rw e at c.run.ensures.area_unchanged) ∙ c.first_table.ensures.area_unchanged;
    }
