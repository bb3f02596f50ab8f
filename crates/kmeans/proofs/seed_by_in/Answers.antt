use lib.ListN.{length}
use Rattle.distance_columns.specs.Columns.{points_at}
use Rattle.kmeans.proofs.Sourced.{rng_matrix, supplied_matrix}
use Rattle.kmeans.proofs.Fronts.{third_area}
use Rattle.kmeans.proofs.seed_by_in.Goals as goal

pub returns : goal.returns
returns c =
    let a = c.args.area.now in
    let m = c.args.m in record {
      supplied_by = supplied_matrix (points_at a m) m (length c.args.centres.now) c.args.src c.args.draws.now _ _ c.requires.0.some (third_area a m c.requires.0) (rw c.requires.2 at c.seed_by.ensures.supplied_by);
      rng_of = rng_matrix (points_at a m) m (length c.args.centres.now) c.args.src _ c.requires.0.some (third_area a m c.requires.0) (rw c.requires.2 at c.seed_by.ensures.rng_of);
    }
