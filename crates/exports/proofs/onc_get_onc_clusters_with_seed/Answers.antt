use Rattle.exports.proofs.Grouping.{four_places, grouping_refused_as, grouping_reported_lem}
use Rattle.exports.proofs.onc_get_onc_clusters_with_seed.Goals as goal

pub returns-then-refusal-ne0 : goal.returns-then-refusal-ne0
returns-then-refusal-ne0 c = grouping_refused_as _ _ _ _ c.grouping_refused-refusal.ensures c.if-refusal-ne0.true

pub report_grouping-requires : goal.report_grouping-requires
report_grouping-requires c = four_places _ _ _ _ _ c.grouping_refused-refusal.ensures c.if-refusal-ne0.false

pub returns : goal.returns
returns c =
    grouping_reported_lem _ _ c.args.answer.now _ c.get_onc_clusters_with_seed-a.result (four_places _ _ _ _ _ c.grouping_refused-refusal.ensures c.if-refusal-ne0.false)
    c.get_onc_clusters_with_seed-a.ensures c.report_grouping.ensures.0 c.report_grouping.ensures.1
