use Prim.Native.Nat.{◌≤◌, ℕ}
use mathlib.Core.Path.{◌∙◌, ◌≡◌, sym}
use native.Mathlib.Omega.{arith}
use lib.ListN.{length}
use lib.Seq.{length-take-le}
use Rattle.improve_merge.specs.Steps.{state_of}
use Rattle.round_lists.proofs.Storing.{marking, sized_below, sized_few}
use Rattle.round_lists.proofs.find_weak_with.Goals as goal

pub store_rows-requires : goal.store_rows-requires
store_rows-requires c =
    let m : ℕ = length c.args.scores.now in
    let e : length c.weak_items-weak.new.items ≡ m = c.weak_items-weak.auto.items ∙ c.requires.4 in
    let w = sized_few m c.args.count c.args.order.now c.args.sizes.now c.args.scores.now c.requires.0 in
    let h : c.weak_items-weak.result.items ≤ length c.weak_items-weak.new.items = omega (arith, e, w, c.weak_items-weak.ensures.items_are) in
    let k : c.weak_items-weak.result.items ≤ length c.args.rows.now = omega (arith, c.requires.5, w, c.weak_items-weak.ensures.items_are) in (
      marking (state_of c.args.count c.args.sizes.now c.args.order.now c.args.scores.now) _ _ _ _ _ c.weak_items-weak.ensures c.args.n m c.args.wi.now c.requires.1 c.requires.2 w
          (sized_below m c.args.count c.args.order.now c.args.sizes.now c.args.scores.now c.requires.0) c.requires.3,
      length-take-le c.weak_items-weak.result.items c.args.rows.now k ∙ sym (length-take-le c.weak_items-weak.result.items c.weak_items-weak.new.items h),
    )
