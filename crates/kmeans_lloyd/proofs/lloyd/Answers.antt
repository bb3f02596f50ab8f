use Prim.Native.Nat.{◌*◌, ◌≤◌}
use mathlib.Core.Path.{◌∙◌, ap, sym}
use native.Mathlib.Omega.{arith}
use native.Mathlib.Nat.{mul-le-mul}
use lib.ListN.{length}
use lib.Seq.{length-take-le}
use Rattle.std.proofs.Common.{Ok, Err}
use Rattle.std.proofs.lemmas.Result.{err_from_is_err_and}
use Rattle.lists.specs.Lists.{first_from}
use Rattle.kmeans_answers.proofs.Laws.{not_started, was_run}
use Rattle.kmeans_lloyd.specs.Leaves.{lloyd_leaf}
use Rattle.kmeans_answers.proofs.Runs.{areas_back, areas_length, asked_is, lists_sized, none_refused, points_are, ran, starts, wiped_back}
use Rattle.kmeans_lloyd.proofs.Laws.{centres_are}
use Rattle.kmeans_lloyd.proofs.lloyd.Goals as goal

pub returns-in_err-check : goal.returns-in_err-check
unfolding lloyd_leaf
returns-in_err-check c =
    let p = err_from_is_err_and c.from_residual.result c.from_residual.ensures.1 in
    let i = asked_is (length c.args.points.now) c.args.n (length c.args.centres.now) (length c.args.labels.now) c.args.n (length c.args.floats.now) (length c.args.numbers.now) (first_from c.args.n c.args.centres.now) (length c.args.centres.now) c.lists_fit-fits.ensures (rw c.first_from-bad.ensures at c.in_err-check.ensures) in
    not_started c.from_residual.result _ c.args.n _ c.args.labels.now c.args.floats.now c.args.numbers.now c.in_err-check.field-0.0 (rw p.1 (ap Err p.2)) i

pub overflow_mul-end : goal.overflow_mul-end
overflow_mul-end c =
    let s = starts (length c.args.points.now) c.args.n (length c.args.centres.now) (length c.args.labels.now) c.args.n (length c.args.floats.now) (length c.args.numbers.now) (first_from c.args.n c.args.centres.now) (length c.args.centres.now) c.lists_fit-fits.ensures (rw c.first_from-bad.ensures at c.in_ok-check.ensures) in
    omega (arith, mul-le-mul s.few s.few)

pub overflow_mul-end-2 : goal.overflow_mul-end-2
overflow_mul-end-2 c =
    let s = starts (length c.args.points.now) c.args.n (length c.args.centres.now) (length c.args.labels.now) c.args.n (length c.args.floats.now) (length c.args.numbers.now) (first_from c.args.n c.args.centres.now) (length c.args.centres.now) c.lists_fit-fits.ensures (rw c.first_from-bad.ensures at c.in_ok-check.ensures) in
    omega (arith, mul-le-mul s.few s.few)

pub slice_bounds-lloyd_alone-end : goal.slice_bounds-lloyd_alone-end
slice_bounds-lloyd_alone-end c =
    let l = lists_sized (length c.args.points.now) c.args.n (length c.args.centres.now) (length c.args.labels.now) c.args.n (length c.args.floats.now) (length c.args.numbers.now) (first_from c.args.n c.args.centres.now) (length c.args.centres.now) c.lists_fit-fits.ensures (rw c.first_from-bad.ensures at c.in_ok-check.ensures) in
    omega (arith, l.doubles)

pub slice_bounds-lloyd_alone-end-2 : goal.slice_bounds-lloyd_alone-end-2
slice_bounds-lloyd_alone-end-2 c =
    let l = lists_sized (length c.args.points.now) c.args.n (length c.args.centres.now) (length c.args.labels.now) c.args.n (length c.args.floats.now) (length c.args.numbers.now) (first_from c.args.n c.args.centres.now) (length c.args.centres.now) c.lists_fit-fits.ensures (rw c.first_from-bad.ensures at c.in_ok-check.ensures) in
    let h : 5 * (c.args.n * c.args.n) ≤ length c.args.floats.now = omega (arith, l.doubles) in
    sym (length-take-le (5 * (c.args.n * c.args.n)) c.args.floats.now h)

pub lloyd_alone-requires : goal.lloyd_alone-requires
lloyd_alone-requires c =
    let s = starts (length c.args.points.now) c.args.n (length c.args.centres.now) (length c.args.labels.now) c.args.n (length c.args.floats.now) (length c.args.numbers.now) (first_from c.args.n c.args.centres.now) (length c.args.centres.now) c.lists_fit-fits.ensures (rw c.first_from-bad.ensures at c.in_ok-check.ensures) in
    let l = lists_sized (length c.args.points.now) c.args.n (length c.args.centres.now) (length c.args.labels.now) c.args.n (length c.args.floats.now) (length c.args.numbers.now) (first_from c.args.n c.args.centres.now) (length c.args.centres.now) c.lists_fit-fits.ensures (rw c.first_from-bad.ensures at c.in_ok-check.ensures) in
    let h : 5 * (c.args.n * c.args.n) ≤ length c.args.floats.now = omega (arith, l.doubles) in
    (points_are c.args.points.now c.args.n _ _ _ s, centres_are c.args.centres.now c.args.n s.names s.in_range, l.right, length-take-le (5 * (c.args.n * c.args.n)) c.args.floats.now h)

pub wipe-requires : goal.wipe-requires
wipe-requires c =
    let s = starts (length c.args.points.now) c.args.n (length c.args.centres.now) (length c.args.labels.now) c.args.n (length c.args.floats.now) (length c.args.numbers.now) (first_from c.args.n c.args.centres.now) (length c.args.centres.now) c.lists_fit-fits.ensures (rw c.first_from-bad.ensures at c.in_ok-check.ensures) in
    let l = lists_sized (length c.args.points.now) c.args.n (length c.args.centres.now) (length c.args.labels.now) c.args.n (length c.args.floats.now) (length c.args.numbers.now) (first_from c.args.n c.args.centres.now) (length c.args.centres.now) c.lists_fit-fits.ensures (rw c.first_from-bad.ensures at c.in_ok-check.ensures) in
    let h : 5 * (c.args.n * c.args.n) ≤ length c.args.floats.now = omega (arith, l.doubles) in
    let b = c.lloyd_alone.auto.area ∙ length-take-le (5 * (c.args.n * c.args.n)) c.args.floats.now h in
    (s.few, rw (areas_length c.args.n c.args.floats.now c.lloyd_alone.new.area b h) l.doubles, l.counts)

pub returns : goal.returns
unfolding lloyd_leaf
returns c =
    let z = none_refused (length c.args.points.now) c.args.n (length c.args.centres.now) (length c.args.labels.now) c.args.n (length c.args.floats.now) (length c.args.numbers.now) (first_from c.args.n c.args.centres.now) (length c.args.centres.now) c.lists_fit-fits.ensures (rw c.first_from-bad.ensures at c.in_ok-check.ensures) in
    let l = lists_sized (length c.args.points.now) c.args.n (length c.args.centres.now) (length c.args.labels.now) c.args.n (length c.args.floats.now) (length c.args.numbers.now) (first_from c.args.n c.args.centres.now) (length c.args.centres.now) c.lists_fit-fits.ensures (rw c.first_from-bad.ensures at c.in_ok-check.ensures) in
    let h : 5 * (c.args.n * c.args.n) ≤ length c.args.floats.now = omega (arith, l.doubles) in
    let b = c.lloyd_alone.auto.area ∙ length-take-le (5 * (c.args.n * c.args.n)) c.args.floats.now h in
    was_run (Ok 0) _ c.args.n _ c.args.labels.now c.args.floats.now c.args.numbers.now z (ap (ran (Ok 0)) c.lloyd_alone.ensures) (wiped_back c.args.n c.args.floats.now _ c.wipe.ensures.0 (areas_back c.args.n c.args.floats.now c.lloyd_alone.new.area b)) c.wipe.ensures.1
