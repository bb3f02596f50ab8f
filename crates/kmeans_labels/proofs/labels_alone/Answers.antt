use native.Mathlib.Omega.{arith}
use Rattle.std.proofs.lemmas.Result.{err_from_is_err_and}
use Rattle.lists.specs.Lists.{cell_at}
use Rattle.kmeans_labels.proofs.Laws.{labels_done, labels_stopped}
use Rattle.kmeans_labels.proofs.labels_alone.Goals as goal

pub returns-in_err-clustered : goal.returns-in_err-clustered
returns-in_err-clustered c =
    let p = err_from_is_err_and c.from_residual.result c.from_residual.ensures.1 in
    let q = rw c.prepare.ensures.1 at (c.in_err-clustered.ensures).clustered_by in
    rw (p.1, p.2) (labels_stopped (cell_at c.args.points.now c.args.n) c.args.n c.args.k (omega (arith, c.requires.0.two)) (omega (arith, c.requires.1.two)) c.args.draws.now c.args.labels.now _ q)

pub returns : goal.returns
returns c =
    let q = rw c.prepare.ensures.1 at (c.in_ok-clustered.ensures).clustered_by in
    labels_done (cell_at c.args.points.now c.args.n) c.args.n c.args.k (omega (arith, c.requires.0.two)) (omega (arith, c.requires.1.two)) c.args.draws.now c.args.labels.now _ q
