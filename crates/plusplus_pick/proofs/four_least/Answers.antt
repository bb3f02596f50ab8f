use mathlib.Core.Path.{◌∙◌, ◌≡◌, ap, refl}
use native.Mathlib.Omega.{arith}
use lib.ListN.{length}
use lib.Ieee.{add, binary64, of_bits}
use Rattle.lists.specs.Sums.{lesser, sum_to}
use Rattle.lists.specs.Lists.{cells}
use Rattle.lists.proofs.Sums.{sum_more}
use Rattle.plusplus_pick.proofs.four_least.Goals as goal

pub loop-i-init : goal.loop-i-init
unfolding sum_to of_bits
loop-i-init c = (refl, refl, refl, refl)

pub loop-i-preserved : goal.loop-i-preserved
loop-i-preserved c =
    let s = c.args in
    let l = c.loop-i in (
      ap (add binary64 l.p) c.lesser-p.ensures ∙ sum_more (λ k. lesser (cells s.a.now k) (cells s.weights.now k)) l.i l.invariant.0,
      ap (add binary64 l.q) c.lesser-q.ensures ∙ sum_more (λ k. lesser (cells s.b.now k) (cells s.weights.now k)) l.i l.invariant.1,
      ap (add binary64 l.s) c.lesser-s.ensures ∙ sum_more (λ k. lesser (cells s.c.now k) (cells s.weights.now k)) l.i l.invariant.2,
      ap (add binary64 l.t) c.lesser-t.ensures ∙ sum_more (λ k. lesser (cells s.d.now k) (cells s.weights.now k)) l.i l.invariant.3,
    )

pub returns : goal.returns
returns c =
    let l = c.loop-i in
    let e : l.i ≡ length c.args.weights.now = omega arith in
    (rw e at l.invariant.0, rw e at l.invariant.1, rw e at l.invariant.2, rw e at l.invariant.3)
