use mathlib.Core.Path.{◌≡◌}
use native.Mathlib.Omega.{arith}
use lib.ListN.{length}
use Rattle.lists.specs.Lists.{numbers}
use Rattle.partition.proofs.Filling.{Grouped, grouped_all, grouped_fit, grouped_more, grouped_none, grouped_place, grouped_same}
use Rattle.partition.proofs.groups_of.Goals as goal

pub loop-l-init : goal.loop-l-init
loop-l-init c =
    let a = c.args in
    let filled = rw c.requires.2 at c.fill.ensures.after (λ y e. e) in
    grouped_none (numbers a.labels.now) (length a.labels.now) a.order.now _ c.requires.1 filled

pub append_members-end-requires : goal.append_members-end-requires
append_members-end-requires c =
    let s = c.loop-l.invariant in
    (c.requires.0, grouped_fit _ _ _ _ _ _ _ s, omega (arith, s.long, c.requires.0))

pub loop-l-preserved-then-end-at : goal.loop-l-preserved-then-end-at
loop-l-preserved-then-end-at c =
    let same : c.append_members-end.result ≡ c.loop-l.at = c.if-end-at.true in
    grouped_same _ _ _ _ _ _ _ c.loop-l.invariant _ c.append_members-end.ensures.order_after c.append_members-end.result c.append_members-end.ensures.value same

pub offset_bounds-sizes-count : goal.offset_bounds-sizes-count
offset_bounds-sizes-count c = omega (arith, grouped_place _ _ _ _ _ _ _ c.loop-l.invariant c.loop-l-test.true, c.requires.0)

pub bounds-sizes-count : goal.bounds-sizes-count
bounds-sizes-count c = omega (arith, grouped_place _ _ _ _ _ _ _ c.loop-l.invariant c.loop-l-test.true, c.loop-l.invariant.room)

pub overflow_add-count : goal.overflow_add-count
overflow_add-count c = omega (arith, grouped_place _ _ _ _ _ _ _ c.loop-l.invariant c.loop-l-test.true, c.requires.0)

pub loop-l-preserved : goal.loop-l-preserved
loop-l-preserved c =
    let some : c.append_members-end.result ≡ c.loop-l.at → ⊥ = c.if-end-at.false in
    grouped_more _ _ _ _ _ _ _ c.loop-l.invariant _ c.append_members-end.ensures.order_after c.append_members-end.result c.append_members-end.ensures.value some c.loop-l-test.true

pub returns : goal.returns
returns c =
    let m = length c.args.labels.now in
    let label = numbers c.args.labels.now in
    let end : c.loop-l.l ≡ m = omega arith in
    let s : Grouped label m m c.loop-l.at c.loop-l.count c.loop-l.order c.loop-l.sizes = rw end at c.loop-l.invariant in
    record {
      value = s.counts;
      order_after = grouped_all label m _ _ _ _ s c.requires.3;
      sizes_after = s.sized;
    }
