use mathlib.Core.Path.{refl}
use native.Mathlib.Omega.{arith}
use lib.ListN.{length}
use Rattle.improve_merge.proofs.Laws.{behind_ready, groups_fit, merged}
use Rattle.improve_merge.proofs.merge.Goals as goal

pub overflow_add-groups : goal.overflow_add-groups
overflow_add-groups c = omega (arith, groups_fit (length c.args.scores.now) c.args.count c.args.order.now c.args.sizes.now c.args.scores.now c.args.items.now c.args.inner c.args.inner_order.now c.args.inner_sizes.now c.requires.0, c.kept_groups-kept.ensures.groups_are, c.requires.0.base.sized.few)

pub append_groups-requires : goal.append_groups-requires
append_groups-requires c = behind_ready (length c.args.scores.now) c.args.count c.args.order.now c.args.sizes.now c.args.scores.now c.args.items.now c.args.inner c.args.inner_order.now c.args.inner_sizes.now c.requires.0 c.requires.1 c.kept_groups-kept.ensures

pub returns : goal.returns
returns c = merged (length c.args.scores.now) c.args.count c.args.order.now c.args.sizes.now c.args.scores.now c.args.items.now c.args.inner c.args.inner_order.now c.args.inner_sizes.now c.requires.0 c.requires.1 c.kept_groups-kept.ensures refl c.append_groups.ensures
