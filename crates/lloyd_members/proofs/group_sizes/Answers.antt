use Prim.Native.Nat.{ℕ}
use mathlib.Core.Path.{◌∙◌, ◌≡◌, ap, sym}
use mathlib.Core.List.{List}
use native.Mathlib.Omega.{arith}
use lib.ListN.{length}
use Rattle.lists.specs.Sums.{fold_if, group_size, in_group}
use Rattle.lists.specs.Lists.{numbers}
use Rattle.lists.proofs.Sums.{count-le}
use Rattle.lists.proofs.Listed.{get_d_listed, listed_const}
use Rattle.lloyd_members.proofs.Tallies.{size_add, size_skip}
use Rattle.lloyd_members.proofs.group_sizes.Goals as goal
use Rattle.lloyd_members.proofs.group_sizes.Goals.{then-l-sizes, else-l-sizes}

pub loop-l-init : goal.loop-l-init
unfolding fold_if
loop-l-init c = c.fill.ensures.after (λ y e. e) ∙ sym (listed_const {A = ℕ} 0 (length c.args.sizes.now))

pub overflow_add-sizes : goal.overflow_add-sizes
overflow_add-sizes c =
    let f = numbers c.args.labels.now in
    let i = c.loop-l.l-index in
    let e : numbers c.loop-l.sizes (f i) ≡ group_size f i (f i) = ap (λ (x : List ℕ). numbers x (f i)) c.loop-l.invariant ∙ get_d_listed (group_size f i) _ (f i) 0 (omega (arith, c.if-l-sizes.true)) in
    omega (arith, e, count-le (in_group f (f i)) i)

pub loop-l-preserved : goal.loop-l-preserved
loop-l-preserved c =
    let f = numbers c.args.labels.now in
    let h = c.loop-l.invariant in
    elim c.if-l-sizes.branch [
      | then-l-sizes w ↦ w.sizes-is ∙ size_add f c.loop-l.l-index _ h (omega arith)
      | else-l-sizes w ↦ w.sizes-is ∙ h ∙ size_skip f c.loop-l.l-index _ (omega arith)
    ]
