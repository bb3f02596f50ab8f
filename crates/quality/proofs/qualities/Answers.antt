use Prim.Native.Nat.{◌+◌, ◌-◌, ◌<◌, ◌≤◌}
use mathlib.Core.Path.{◌∙◌, ◌≡◌, ap, refl, sym}
use mathlib.Core.List.{[]}
use native.Mathlib.Omega.{arith}
use lib.ListN.{length, length-set, take}
use lib.Ieee.{nan}
use Rattle.std.proofs.lemmas.List.{get_or-take, length-take-le}
use Rattle.lists.specs.Lists.{listed, numbers, part}
use Rattle.partition.specs.Partition.{group_at}
use Rattle.partition.specs.Orders.{cut, total_to}
use Rattle.lists.proofs.Listed.{listed_map, writes, writes_done, writes_one}
use Rattle.partition.proofs.Cuts.{cut-length, cut_part, sized_end, total_next}
use Rattle.quality.specs.Quality.{quality_of}
use Rattle.quality.proofs.qualities.Goals as goal
use Rattle.quality.proofs.qualities.Goals.{In-loop-g}

-- g is one of the groups, and its size is the one that stands at its place
counted : (c : In-loop-g) → c.loop-g.g < length c.args.out.now
counted c = omega (arith, length-take-le (length c.args.out.now) c.args.sizes.now (omega arith))

size_at : (c : In-loop-g) → numbers (take (length c.args.out.now) c.args.sizes.now) c.loop-g.g ≡ numbers c.args.sizes.now c.loop-g.g
size_at c = get_or-take (length c.args.out.now) c.args.sizes.now c.loop-g.g 0 (counted c)

-- group g ends within the order
ends : (c : In-loop-g) → c.loop-g.at + numbers (take (length c.args.out.now) c.args.sizes.now) c.loop-g.g ≤ length c.args.scores.now
ends c = omega (arith, size_at c, sized_end c.requires c.loop-g.g (counted c), c.loop-g.invariant.0)

pub loop-g-init : goal.loop-g-init
unfolding writes total_to
loop-g-init c = (refl, refl, refl)

pub overflow_add-end : goal.overflow_add-end
overflow_add-end c = omega (arith, ends (goal.at.overflow_add-end c).In-loop-g, c.requires.few)

pub offset_bounds-order-at : goal.offset_bounds-order-at
offset_bounds-order-at c = omega (arith, ends (goal.at.offset_bounds-order-at c).In-loop-g, c.requires.few)

pub slice_bounds-group_quality-end : goal.slice_bounds-group_quality-end
slice_bounds-group_quality-end c = omega (arith, ends (goal.at.slice_bounds-group_quality-end c).In-loop-g, c.requires.items)

pub loop-g-preserved : goal.loop-g-preserved
loop-g-preserved c =
    let a = c.args in
    let g = c.loop-g.g in
    let i = (goal.at.loop-g-preserved c).In-loop-g in
    let size = numbers (take (length a.out.now) a.sizes.now) g in
    let whole : c.loop-g.at + size - c.loop-g.at ≡ numbers a.sizes.now g = omega (arith, size_at i) in
    let own : part c.loop-g.at (c.loop-g.at + size - c.loop-g.at) a.order.now ≡ group_at (cut (length a.out.now) a.sizes.now a.order.now) g =
    cut_part (length a.out.now) a.sizes.now a.order.now g (counted i) c.loop-g.invariant.0 whole in
    let value = c.group_quality.ensures ∙ ap (quality_of a.scores.now) own in
    (ap (λ n. c.loop-g.at + n) (size_at i) ∙ total_next (numbers a.sizes.now) g c.loop-g.invariant.0, simp length-set c.loop-g.invariant.1, writes_one _ g _ c.loop-g.invariant.2 value)

pub returns : goal.returns
returns c =
    let a = c.args in
    let n = length a.out.now in
    let gs = cut n a.sizes.now a.order.now in
    let q = quality_of a.scores.now in
    let end : c.loop-g.g ≡ n = omega (arith, length-take-le n a.sizes.now (omega arith)) in
    let long : length gs ≡ n = cut-length n a.sizes.now a.order.now in
    let done : c.loop-g.out ≡ listed (λ k. q (group_at gs k)) n = writes_done nan _ _ _ _ c.loop-g.invariant.2 end refl in
    done ∙ ap (listed (λ k. q (group_at gs k))) (sym long) ∙ listed_map q [] gs
