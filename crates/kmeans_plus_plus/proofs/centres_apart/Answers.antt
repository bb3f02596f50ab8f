use native.Mathlib.Omega.{arith}
use lib.ListN.{length}
use Rattle.std.proofs.lemmas.Result.{err_from_is_err_and}
use Rattle.distance_columns.specs.Pair.{squared_at}
use Rattle.distance_columns.specs.Columns.{points_at}
use Rattle.kmeans_plus_plus.proofs.Laws.{centres_done, centres_stopped}
use Rattle.kmeans_plus_plus.proofs.centres_apart.Goals as goal

pub returns-in_err-next : goal.returns-in_err-next
returns-in_err-next c =
    let p = err_from_is_err_and c.from_residual.result c.from_residual.ensures.1 in
    let s = rw c.requires.2 at c.in_err-next.ensures in
    rw (p.1, p.2) (centres_stopped (squared_at (points_at c.args.area.now c.args.n) c.args.n) c.args.n (length c.args.centres.now) c.requires.0.some (omega (arith, c.requires.1.two)) c.args.draws.now _ c.args.centres.now s)

pub returns : goal.returns
returns c =
    let s = rw c.requires.2 at c.in_ok-next.ensures in
    centres_done (squared_at (points_at c.args.area.now c.args.n) c.args.n) c.args.n (length c.args.centres.now) c.requires.0.some (omega (arith, c.requires.1.two)) c.args.draws.now _ c.args.centres.now s c.copy.ensures.after
