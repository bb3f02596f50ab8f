use Rattle.std.proofs.Common.{◌≡◌, ◌∙◌, ◌+◌, ◌-◌, ◌<◌, ◌≤◌, ap, sym, arith, length}
use Rattle.lists.specs.Lists.{numbers}
use Rattle.partition.specs.Orders.{cut}
use Rattle.partition.proofs.Cuts.{cut-length, cut_part, sized_end, total_next}
use Rattle.partition.proofs.Totals.{total_none}
use Rattle.quality.specs.Quality.{on_side}
use Rattle.quality_pick.proofs.Picking.{cut_size, picked_ahead, picking_all, picking_few, picking_more, picking_none, picking_room, picking_same}
use Rattle.quality_pick.proofs.pick.Goals as goal

pub loop-g-init : goal.loop-g-init
loop-g-init c =
    let a = c.args in
    let filled = rw c.requires.1 at c.fill.ensures.after (λ y e. e) in
    (sym (total_none (numbers a.sizes.now)), picking_none (on_side a.qs.now a.limit a.below) (cut (length a.qs.now) a.sizes.now a.order.now) a.out.now _ filled)

pub overflow_add-at : goal.overflow_add-at
overflow_add-at c =
    let ends : c.loop-g.at + numbers c.args.sizes.now c.loop-g.g ≤ length c.args.out.now = omega (arith, sized_end c.requires.0 c.loop-g.g c.loop-g-test.true, c.loop-g.invariant.0) in
    omega (arith, c.requires.0.few)

pub loop-g-preserved-then-not-on_side : goal.loop-g-preserved-then-not-on_side
loop-g-preserved-then-not-on_side c =
    (total_next (numbers c.args.sizes.now) c.loop-g.g c.loop-g.invariant.0, picking_same _ _ _ _ _ _ _ _ c.loop-g.invariant.1 (sym c.on_side.ensures ∙ c.if-not-on_side.true))

pub overflow_add-to : goal.overflow_add-to
overflow_add-to c =
    let fits : c.loop-g.items + numbers c.args.sizes.now c.loop-g.g ≤ length c.args.out.now =
    omega (arith, sized_end c.requires.0 c.loop-g.g c.loop-g-test.true, c.loop-g.invariant.0, c.loop-g.invariant.1.ends, picked_ahead c.requires.0 (on_side c.args.qs.now c.args.limit c.args.below) c.loop-g.g (omega arith)) in
    omega (arith, c.requires.0.few)

pub offset_bounds-order-from : goal.offset_bounds-order-from
offset_bounds-order-from c =
    let ends : c.loop-g.at + numbers c.args.sizes.now c.loop-g.g ≤ length c.args.out.now = omega (arith, sized_end c.requires.0 c.loop-g.g c.loop-g-test.true, c.loop-g.invariant.0) in
    omega (arith, c.requires.0.few)

pub slice_bounds-copy-end : goal.slice_bounds-copy-end
slice_bounds-copy-end c =
    let ends : c.loop-g.at + numbers c.args.sizes.now c.loop-g.g ≤ length c.args.out.now = omega (arith, sized_end c.requires.0 c.loop-g.g c.loop-g-test.true, c.loop-g.invariant.0) in
    omega (arith, c.requires.0.items)

pub slice_bounds-copy-end-in-loop-g : goal.slice_bounds-copy-end-in-loop-g
slice_bounds-copy-end-in-loop-g c =
    let fits : c.loop-g.items + numbers c.args.sizes.now c.loop-g.g ≤ length c.args.out.now =
    omega (arith, sized_end c.requires.0 c.loop-g.g c.loop-g-test.true, c.loop-g.invariant.0, c.loop-g.invariant.1.ends, picked_ahead c.requires.0 (on_side c.args.qs.now c.args.limit c.args.below) c.loop-g.g (omega arith)) in
    omega (arith, c.loop-g.invariant.1.long)

pub offset_bounds-out_sizes-groups : goal.offset_bounds-out_sizes-groups
offset_bounds-out_sizes-groups c =
    let place : c.loop-g.groups < length c.args.out.now = omega (arith, picking_few _ _ _ _ _ _ _ _ c.loop-g.invariant.1, c.loop-g-test.true, c.requires.0.groups) in
    omega (arith, c.requires.0.few)

pub bounds-out_sizes-groups : goal.bounds-out_sizes-groups
bounds-out_sizes-groups c =
    let place : c.loop-g.groups < length c.args.out.now = omega (arith, picking_few _ _ _ _ _ _ _ _ c.loop-g.invariant.1, c.loop-g-test.true, c.requires.0.groups) in
    omega (arith, picking_room _ _ _ _ _ _ _ _ c.loop-g.invariant.1)

pub overflow_add-groups : goal.overflow_add-groups
overflow_add-groups c =
    let place : c.loop-g.groups < length c.args.out.now = omega (arith, picking_few _ _ _ _ _ _ _ _ c.loop-g.invariant.1, c.loop-g-test.true, c.requires.0.groups) in
    omega (arith, c.requires.0.few)

pub loop-g-preserved : goal.loop-g-preserved
loop-g-preserved c =
    let fits : c.loop-g.items + numbers c.args.sizes.now c.loop-g.g ≤ length c.args.out.now =
    omega (arith, sized_end c.requires.0 c.loop-g.g c.loop-g-test.true, c.loop-g.invariant.0, c.loop-g.invariant.1.ends, picked_ahead c.requires.0 (on_side c.args.qs.now c.args.limit c.args.below) c.loop-g.g (omega arith)) in
    let place : c.loop-g.groups < length c.args.out.now = omega (arith, picking_few _ _ _ _ _ _ _ _ c.loop-g.invariant.1, c.loop-g-test.true, c.requires.0.groups) in
    let a = c.args in
    let l = c.loop-g in
    let size = numbers a.sizes.now l.g in
    let whole : l.at + size - l.at ≡ size = omega arith in
    let own = c.copy.ensures.after ∙ cut_part (length a.qs.now) a.sizes.now a.order.now l.g c.loop-g-test.true l.invariant.0 whole in
    let long = sym (cut_size c.requires.0 l.g c.loop-g-test.true) ∙ ap length (sym own) in
    let room : l.items + size - l.items ≡ size = omega arith in
    let end = ap (λ n. l.items + n) long in (
      total_next (numbers a.sizes.now) l.g l.invariant.0,
      picking_more _ _ _ _ _ _ _ _ l.invariant.1 _ _ _ _ (sym c.on_side.ensures ∙ c.if-not-on_side.false) own long (room ∙ long) end (rw (sym end) fits) place,
    )

pub returns-clause-groups_value : goal.returns-clause-groups_value
returns-clause-groups_value c =
    let end : c.loop-g.g ≡ length (cut (length c.args.qs.now) c.args.sizes.now c.args.order.now) = omega (arith, cut-length (length c.args.qs.now) c.args.sizes.now c.args.order.now) in
    (picking_all _ _ _ _ _ _ _ _ c.loop-g.invariant.1 end).0

pub returns-clause-out_after : goal.returns-clause-out_after
returns-clause-out_after c =
    let end : c.loop-g.g ≡ length (cut (length c.args.qs.now) c.args.sizes.now c.args.order.now) = omega (arith, cut-length (length c.args.qs.now) c.args.sizes.now c.args.order.now) in
    (picking_all _ _ _ _ _ _ _ _ c.loop-g.invariant.1 end).1.0

pub returns-clause-out_sizes_after : goal.returns-clause-out_sizes_after
returns-clause-out_sizes_after c =
    let end : c.loop-g.g ≡ length (cut (length c.args.qs.now) c.args.sizes.now c.args.order.now) = omega (arith, cut-length (length c.args.qs.now) c.args.sizes.now c.args.order.now) in
    (picking_all _ _ _ _ _ _ _ _ c.loop-g.invariant.1 end).1.1
