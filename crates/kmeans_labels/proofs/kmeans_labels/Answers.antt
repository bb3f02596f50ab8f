use mathlib.Core.Path.{ap}
use lib.ListN.{length}
use Rattle.std.proofs.Common.{Err}
use Rattle.std.proofs.lemmas.Result.{err_from_is_err_and}
use Rattle.kmeans_answers.proofs.Laws.{not_started, was_run}
use Rattle.kmeans_labels.specs.Leaves.{labels_leaf}
use Rattle.kmeans_answers.proofs.Runs.{asked_is, lists_sized, none_refused, points_are, starts, wiped_back}
use Rattle.kmeans_labels.proofs.kmeans_labels.Goals as goal

pub returns-in_err-check : goal.returns-in_err-check
unfolding labels_leaf
returns-in_err-check c =
    let p = err_from_is_err_and c.from_residual.result c.from_residual.ensures.1 in
    let i = asked_is (length c.args.points.now) c.args.n c.args.k (length c.args.labels.now) c.args.n (length c.args.floats.now) (length c.args.numbers.now) 0 0 c.lists_fit-sized.ensures c.in_err-check.ensures in
    not_started c.from_residual.result _ c.args.n _ c.args.labels.now c.args.floats.now c.args.numbers.now c.in_err-check.field-0.0 (rw p.1 (ap Err p.2)) i

pub run_labels-answer-requires : goal.run_labels-answer-requires
run_labels-answer-requires c =
    let s = starts (length c.args.points.now) c.args.n c.args.k (length c.args.labels.now) c.args.n (length c.args.floats.now) (length c.args.numbers.now) 0 0 c.lists_fit-sized.ensures c.in_ok-check.ensures in
    let l = lists_sized (length c.args.points.now) c.args.n c.args.k (length c.args.labels.now) c.args.n (length c.args.floats.now) (length c.args.numbers.now) 0 0 c.lists_fit-sized.ensures c.in_ok-check.ensures in
    (points_are c.args.points.now c.args.n c.args.k 0 0 s, s.groups, s.names, l.right, l.doubles)

pub wipe-requires : goal.wipe-requires
wipe-requires c =
    let s = starts (length c.args.points.now) c.args.n c.args.k (length c.args.labels.now) c.args.n (length c.args.floats.now) (length c.args.numbers.now) 0 0 c.lists_fit-sized.ensures c.in_ok-check.ensures in
    let l = lists_sized (length c.args.points.now) c.args.n c.args.k (length c.args.labels.now) c.args.n (length c.args.floats.now) (length c.args.numbers.now) 0 0 c.lists_fit-sized.ensures c.in_ok-check.ensures in
    (s.few, rw c.run_labels-answer.auto.floats l.doubles, l.counts)

pub returns : goal.returns
unfolding labels_leaf
returns c =
    let z = none_refused (length c.args.points.now) c.args.n c.args.k (length c.args.labels.now) c.args.n (length c.args.floats.now) (length c.args.numbers.now) 0 0 c.lists_fit-sized.ensures c.in_ok-check.ensures in
    was_run c.run_labels-answer.result _ c.args.n _ c.args.labels.now c.args.floats.now c.args.numbers.now z c.run_labels-answer.ensures.labels_after (wiped_back c.args.n c.args.floats.now c.run_labels-answer.new.floats c.wipe.ensures.0 c.run_labels-answer.ensures.floats_unchanged) c.wipe.ensures.1
