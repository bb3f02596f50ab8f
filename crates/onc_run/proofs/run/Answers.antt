use Rattle.onc_run.proofs.Running.{run_ran, run_ready}
use Rattle.onc_run.proofs.run.Goals as goal

pub cluster_kmeans_top-requires : goal.cluster_kmeans_top-requires
cluster_kmeans_top-requires c =
    rw c.first_source-src.ensures (run_ready c.args.book.now c.args.n c.args.repeat c.args.draws.now c.args.seeded c.args.seed c.args.order.now c.args.sizes.now c.args.scores.now c.args.floats.now c.args.numbers.now c.count_up.new.xs c.requires c.count_up.ensures)

pub returns : goal.returns
returns c =
    run_ran c.args.book.now c.args.n c.args.repeat c.args.draws.now c.args.seeded c.args.seed c.args.order.now c.args.sizes.now c.args.scores.now c.args.floats.now c.args.numbers.now c.count_up.new.xs c.requires c.count_up.ensures (rw c.first_source-src.ensures at c.cluster_kmeans_top.ensures)
