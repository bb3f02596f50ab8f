use Rattle.std.proofs.lemmas.Result.{err_from_is_err_and}
use Rattle.refusals.proofs.Laws.{allowed, err_worked, ok_worked}
use Rattle.distance_pairwise.specs.Leaves.{pairwise_distances}
use Rattle.distance_pairwise.proofs.Handed.{fitting}
use Rattle.distance_pairwise.proofs.pairwise_distances.Goals as goal

pub returns-in_err-check_lists : goal.returns-in_err-check_lists
unfolding pairwise_distances
returns-in_err-check_lists c =
    let p = err_from_is_err_and c.from_residual.result c.from_residual.ensures.1 in
    rw (p.1, p.2) (err_worked _ _ _ c.args.n c.args.floats.now c.in_err-check_lists.ensures)

pub measure_points-requires : goal.measure_points-requires
measure_points-requires c =
    let a = allowed c.in_ok-check_lists.ensures in (fitting c.args.n c.args.out.now c.args.floats.now a.two a.few a.fitting, a.square)

pub returns : goal.returns
unfolding pairwise_distances
returns c = ok_worked _ c.args.n c.args.floats.now c.in_ok-check_lists.ensures c.measure_points.ensures.0 c.measure_points.ensures.1
