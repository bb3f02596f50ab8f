use lib.ListN.{length}
use Rattle.lists.proofs.Matrix.{rows_more, rows_none}
use Rattle.distance.specs.Distance.{dist_at}
use Rattle.distance.proofs.fill_distances.Goals as goal

pub loop-i-init : goal.loop-i-init
loop-i-init c = rows_none (dist_at c.args.book.now c.args.n c.args.rows.now) (length c.args.rows.now) c.args.out.now

pub loop-i-preserved : goal.loop-i-preserved
loop-i-preserved c = rows_more (dist_at c.args.book.now c.args.n c.args.rows.now) (length c.args.rows.now) c.loop-i.i c.args.out.now c.loop-i.invariant c.distance_row.ensures
