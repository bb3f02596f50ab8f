use Prim.Native.Nat.{◌+◌, ◌-◌, ◌<◌, ◌≤◌}
use mathlib.Core.Path.{◌∙◌, ◌≡◌, ap, sym}
use native.Mathlib.Omega.{arith}
use lib.ListN.{length, take}
use Rattle.std.proofs.lemmas.List.{get_or-take, length-take-le}
use Rattle.lists.specs.Lists.{listed, numbers, part}
use Rattle.lists.proofs.Listed.{listed_length}
use Rattle.partition.specs.Partition.{group_at, label_of}
use Rattle.partition.specs.Orders.{cut}
use Rattle.partition.proofs.Cuts.{cut-length, cut_part, sized_end, total_next, part_below}
use Rattle.partition.proofs.Labels.{labels_all, labels_more, labels_none}
use Rattle.partition.proofs.Totals.{total_none}
use Rattle.partition.proofs.labels_from_clusters.Goals as goal
use Rattle.partition.proofs.labels_from_clusters.Goals.{In-loop-g}

-- g is one of the groups, and its size is the one that stands at its place
counted : (c : In-loop-g) → c.loop-g.g < c.args.count
counted c = omega (arith, length-take-le c.args.count c.args.sizes.now (omega arith))

size_at : (c : In-loop-g) → numbers (take c.args.count c.args.sizes.now) c.loop-g.g ≡ numbers c.args.sizes.now c.loop-g.g
size_at c = get_or-take c.args.count c.args.sizes.now c.loop-g.g 0 (counted c)

-- group g ends within the order
ends : (c : In-loop-g) → c.loop-g.at + numbers (take c.args.count c.args.sizes.now) c.loop-g.g ≤ length c.args.sizes.now
ends c = omega (arith, size_at c, sized_end c.requires c.loop-g.g (counted c), c.loop-g.invariant.0, c.requires.room)

pub loop-g-init : goal.loop-g-init
loop-g-init c =
    let a = c.args in
    let filled = rw (sym c.requires.room) at c.fill.ensures.after (λ y e. e) in
    let none = labels_none (cut a.count a.sizes.now a.order.now) (length a.sizes.now) filled in
    (sym (total_none (numbers a.sizes.now)), listed_length _ _ none, none)

pub overflow_add-end : goal.overflow_add-end
overflow_add-end c = omega (arith, ends (goal.at.overflow_add-end c).In-loop-g, c.requires.room, c.requires.few)

pub offset_bounds-order-at : goal.offset_bounds-order-at
offset_bounds-order-at c = omega (arith, ends (goal.at.offset_bounds-order-at c).In-loop-g, c.requires.room, c.requires.few)

pub loop-g-preserved : goal.loop-g-preserved
loop-g-preserved c =
    let a = c.args in
    let g = c.loop-g.g in
    let i = (goal.at.loop-g-preserved c).In-loop-g in
    let size = numbers (take a.count a.sizes.now) g in
    let gs = cut a.count a.sizes.now a.order.now in
    let whole : c.loop-g.at + size - c.loop-g.at ≡ numbers a.sizes.now g = omega (arith, size_at i) in
    let own : part c.loop-g.at (c.loop-g.at + size - c.loop-g.at) a.order.now ≡ group_at gs g = cut_part a.count a.sizes.now a.order.now g (counted i) c.loop-g.invariant.0 whole in
    let more = labels_more gs (length a.sizes.now) g c.loop-g.invariant.2 c.loop-g.invariant.1 own c.label_members.ensures in
    (ap (λ n. c.loop-g.at + n) (size_at i) ∙ total_next (numbers a.sizes.now) g c.loop-g.invariant.0, listed_length _ _ more, more)

pub returns : goal.returns
returns c =
    let a = c.args in
    let gs = cut a.count a.sizes.now a.order.now in
    let end : c.loop-g.g ≡ length gs = omega (arith, cut-length a.count a.sizes.now a.order.now, length-take-le a.count a.sizes.now (omega arith)) in
    let done : c.loop-g.labels ≡ listed (label_of gs) (length a.sizes.now) = labels_all gs (length a.sizes.now) c.loop-g.g c.loop-g.invariant.2 end in
    done ∙ ap (listed (label_of gs)) c.requires.room

pub slice_bounds-label_members-end : goal.slice_bounds-label_members-end
slice_bounds-label_members-end c = omega (arith, ends (goal.at.slice_bounds-label_members-end c).In-loop-g, c.requires.room, c.requires.items)

pub label_members-requires : goal.label_members-requires
label_members-requires c =
    let a = c.args in
    let at = c.loop-g.at in
    let size = numbers (take a.count a.sizes.now) c.loop-g.g in
    let fits : at + (at + size - at) ≤ length a.labels.now = omega (arith, ends (goal.at.label_members-requires c).In-loop-g, c.requires.room) in
    let inside = part_below (length a.labels.now) at (at + size - at) a.order.now c.requires.below fits c.requires.items in
    λ j l. omega (arith, inside j l, c.loop-g.invariant.1, c.requires.room)
