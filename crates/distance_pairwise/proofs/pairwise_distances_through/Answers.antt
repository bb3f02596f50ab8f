use lib.ListN.{length}
use Rattle.std.proofs.lemmas.Result.{err_from_is_err_and}
use Rattle.distance.proofs.Laws.{readable}
use Rattle.refusals.proofs.Laws.{allowed, err_worked, ok_worked}
use Rattle.distance_pairwise.specs.Leaves.{pairwise_distances_through}
use Rattle.distance_pairwise.proofs.Handed.{fitting}
use Rattle.distance_pairwise.proofs.pairwise_distances_through.Goals as goal

pub returns-in_err-check_lists : goal.returns-in_err-check_lists
unfolding pairwise_distances_through
returns-in_err-check_lists c =
    let p = err_from_is_err_and c.from_residual.result c.from_residual.ensures.1 in
    let e = rw c.first_from-bad.ensures at c.in_err-check_lists.ensures in
    rw (p.1, p.2) (err_worked _ _ _ (length c.args.rows.now) c.args.floats.now e)

pub measure_book-requires : goal.measure_book-requires
measure_book-requires c =
    let rows = c.args.rows.now in
    let a = allowed (rw c.first_from-bad.ensures at c.in_ok-check_lists.ensures) in
    (fitting (length rows) c.args.out.now c.args.floats.now a.two_read a.few_read a.fitting, readable c.args.book.now c.args.n rows _ a)

pub returns : goal.returns
unfolding pairwise_distances_through
returns c =
    let e = rw c.first_from-bad.ensures at c.in_ok-check_lists.ensures in
    ok_worked _ (length c.args.rows.now) c.args.floats.now e c.measure_book.ensures.0 c.measure_book.ensures.1
