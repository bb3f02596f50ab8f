use Rattle.std.proofs.lemmas.Result.{err_from_is_err_and}
use mathlib.Core.Path.{refl}
use native.Mathlib.Omega.{arith}
use lib.ListN.{length}
use Rattle.distance_columns.specs.Columns.{points_at}
use Rattle.kmeans.proofs.Sourced.{labelled_done, labelled_stopped, seeded_stopped, supply_done}
use Rattle.kmeans.specs.Steps.{seed_given}
use Rattle.kmeans.proofs.Laws.{centres_made, cluster_done, cluster_stopped}
use Rattle.kmeans.proofs.cluster.Goals as goal

pub lloyd_in-ended-requires : goal.lloyd_in-ended-requires
lloyd_in-ended-requires c =
    let m = c.args.m in
    let k = length c.args.centres.now in
    let x = points_at c.args.area.now m in
    let q = (supply_done _ (rw c.in_ok-source.was at c.seed_by_in.ensures.supplied_by)).1 in
    record {
      held = c.requires.0;
      centres = (centres_made x m k c.requires.0.some (omega (arith, c.requires.1.two)) c.args.src.at (seed_given x m k c.args.src c.args.draws.now) _ _ q c.requires.1.names, c.requires.3);
    }

pub returns-in_err-source : goal.returns-in_err-source
returns-in_err-source c =
    let m = c.args.m in
    let k = length c.args.centres.now in
    let x = points_at c.args.area.now m in
    let q = seeded_stopped _ (rw c.in_err-source.was at c.seed_by_in.ensures.supplied_by) in
    let y = err_from_is_err_and c.from_residual.result c.from_residual.ensures.1 in
    record {
      labelled_by = rw (y.1, y.2) (labelled_stopped _ (cluster_stopped x m k c.requires.0.some (omega (arith, c.requires.1.two)) c.args.src.at (seed_given x m k c.args.src c.args.draws.now) _ _ c.args.labels.now q));
      area_unchanged = refl;
      rng_of = c.seed_by_in.ensures.rng_of;
    }

pub returns : goal.returns
returns c =
    let m = c.args.m in
    let k = length c.args.centres.now in
    let x = points_at c.args.area.now m in
    let q = supply_done _ (rw c.in_ok-source.was at c.seed_by_in.ensures.supplied_by) in
    record {
      labelled_by = labelled_done _ q.0 (cluster_done x m k c.requires.0.some (omega (arith, c.requires.1.two)) c.args.src.at (seed_given x m k c.args.src c.args.draws.now) _ _ q.1 c.args.labels.now c.lloyd_in-ended.ensures.lloyd_result);
      area_unchanged = c.lloyd_in-ended.ensures.area_unchanged;
      rng_of = c.seed_by_in.ensures.rng_of;
    }
