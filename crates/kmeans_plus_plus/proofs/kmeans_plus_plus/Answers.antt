use mathlib.Core.Path.{ap}
use lib.ListN.{length}
use Rattle.std.proofs.Common.{Err}
use Rattle.std.proofs.lemmas.Result.{err_from_is_err_and}
use Rattle.kmeans_answers.proofs.Laws.{not_started, was_run}
use Rattle.kmeans_plus_plus.specs.Leaves.{plus_plus_leaf}
use Rattle.kmeans_answers.proofs.Runs.{asked_is, lists_sized, none_refused, points_are, starts, wiped_back}
use Rattle.kmeans_plus_plus.proofs.kmeans_plus_plus.Goals as goal

pub returns-in_err-check : goal.returns-in_err-check
unfolding plus_plus_leaf
returns-in_err-check c =
    let p = err_from_is_err_and c.from_residual.result c.from_residual.ensures.1 in
    let i = asked_is (length c.args.points.now) c.args.n c.args.k (length c.args.centres.now) c.args.k (length c.args.floats.now) (length c.args.numbers.now) 0 0 c.lists_fit-fits.ensures c.in_err-check.ensures in
    not_started c.from_residual.result _ c.args.n _ c.args.centres.now c.args.floats.now c.args.numbers.now c.in_err-check.field-0.0 (rw p.1 (ap Err p.2)) i

pub run_plus_plus-answer-requires : goal.run_plus_plus-answer-requires
run_plus_plus-answer-requires c =
    let s = starts (length c.args.points.now) c.args.n c.args.k (length c.args.centres.now) c.args.k (length c.args.floats.now) (length c.args.numbers.now) 0 0 c.lists_fit-fits.ensures c.in_ok-check.ensures in
    let l = lists_sized (length c.args.points.now) c.args.n c.args.k (length c.args.centres.now) c.args.k (length c.args.floats.now) (length c.args.numbers.now) 0 0 c.lists_fit-fits.ensures c.in_ok-check.ensures in
    (points_are c.args.points.now c.args.n c.args.k 0 0 s, s.groups, s.names, l.right, l.doubles)

pub wipe-requires : goal.wipe-requires
wipe-requires c =
    let s = starts (length c.args.points.now) c.args.n c.args.k (length c.args.centres.now) c.args.k (length c.args.floats.now) (length c.args.numbers.now) 0 0 c.lists_fit-fits.ensures c.in_ok-check.ensures in
    let l = lists_sized (length c.args.points.now) c.args.n c.args.k (length c.args.centres.now) c.args.k (length c.args.floats.now) (length c.args.numbers.now) 0 0 c.lists_fit-fits.ensures c.in_ok-check.ensures in
    (s.few, rw c.run_plus_plus-answer.auto.floats l.doubles, l.counts)

pub returns : goal.returns
unfolding plus_plus_leaf
returns c =
    let z = none_refused (length c.args.points.now) c.args.n c.args.k (length c.args.centres.now) c.args.k (length c.args.floats.now) (length c.args.numbers.now) 0 0 c.lists_fit-fits.ensures c.in_ok-check.ensures in
    was_run c.run_plus_plus-answer.result _ c.args.n _ c.args.centres.now c.args.floats.now c.args.numbers.now z c.run_plus_plus-answer.ensures.centres_after (wiped_back c.args.n c.args.floats.now c.run_plus_plus-answer.new.floats c.wipe.ensures.0 c.run_plus_plus-answer.ensures.floats_unchanged) c.wipe.ensures.1
