use Rattle.std.proofs.lemmas.Result.{err_from_is_err_and}
use lib.ListN.{length}
use Rattle.lists.specs.Lists.{first_from}
use Rattle.lists.proofs.First.{from_none}
use Rattle.refusals.proofs.Laws.{allowed}
use Rattle.distance_squared.specs.Leaves.{squared_distance_through}
use Rattle.distance_squared.proofs.Laws.{all_good, not_measured, was_measured}
use Rattle.distance_squared.proofs.squared_distance_through.Goals as goal

pub returns-in_err-check_items : goal.returns-in_err-check_items
unfolding squared_distance_through
returns-in_err-check_items c =
    let p = err_from_is_err_and c.from_residual.result c.from_residual.ensures.1 in rw (p.1, p.2) (not_measured _ c.in_err-check_items.ensures _)

pub squared_between-requires : goal.squared_between-requires
squared_between-requires c =
    let a = allowed c.in_ok-check_items.ensures in
    let g = all_good (first_from c.args.n c.args.rows.now) (length c.args.rows.now) c.args.i c.args.j a.in_range in
    (record { few = a.few; square = a.square; few_read = a.few_read; within = from_none c.args.n c.args.rows.now g.rows_good }, g.first_good, g.second_good)

pub returns : goal.returns
unfolding squared_distance_through
returns c = was_measured c.in_ok-check_items.ensures c.squared_between.ensures
