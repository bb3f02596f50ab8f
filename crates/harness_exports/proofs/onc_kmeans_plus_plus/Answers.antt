use Rattle.harness_exports.proofs.Reported.{refused_as_is, reported, three_places}
use Rattle.harness_exports.proofs.onc_kmeans_plus_plus.Goals as goal

pub returns-then-refused-ne0 : goal.returns-then-refused-ne0
returns-then-refused-ne0 c = refused_as_is _ _ _ _ _ _ _ c.kmeans_refused-refused.ensures c.if-refused-ne0.true

pub report_kmeans-requires : goal.report_kmeans-requires
report_kmeans-requires c = three_places _ _ _ c.kmeans_refused-refused.ensures c.if-refused-ne0.false

pub returns : goal.returns
returns c = reported _ _ _ c.args.answer.now _ _ _ c.kmeans_plus_plus-a.result (three_places _ _ _ c.kmeans_refused-refused.ensures c.if-refused-ne0.false) c.kmeans_plus_plus-a.ensures c.report_kmeans.ensures.0 c.report_kmeans.ensures.1
