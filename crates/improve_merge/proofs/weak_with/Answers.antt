use lib.ListN.{length}
use Rattle.improve_merge.proofs.Laws.{weakened}
use Rattle.improve_merge.proofs.weak_with.Goals as goal

pub returns : goal.returns
returns c =
    weakened (length c.args.qs.now) c.args.sizes.now c.args.order.now c.args.scores.now c.qualities.ensures c.average-limit.ensures c.qualities.auto.out
    c.weak_count.ensures c.weak_mean.ensures c.pick-picked.ensures.groups_value.1 c.pick-picked.ensures.out_after
