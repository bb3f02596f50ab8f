use lib.ListN.{length}
use Rattle.improve_merge.proofs.Laws.{was_kept}
use Rattle.improve_merge.proofs.kept_with.Goals as goal

pub returns : goal.returns
returns c =
    was_kept (length c.args.qs.now) c.args.sizes.now c.args.order.now c.args.scores.now c.qualities.ensures c.average-limit.ensures c.qualities.auto.out
    c.pick.ensures.groups_value.0 c.pick.ensures.groups_value.1 c.pick.ensures.out_after c.pick.ensures.out_sizes_after
