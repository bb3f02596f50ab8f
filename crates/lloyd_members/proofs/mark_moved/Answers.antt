use mathlib.Core.Path.{◌∙◌, ◌≡◌, sym}
use mathlib.Core.Bool.{Bool, false}
use native.Mathlib.Omega.{arith}
use lib.ListN.{length}
use Rattle.lists.specs.Sums.{all_to}
use Rattle.lists.proofs.Listed.{listed_const}
use Rattle.lloyd_members.proofs.Tallies.{mark_both, mark_skip}
use Rattle.lloyd_members.proofs.mark_moved.Goals as goal

pub loop-i-init : goal.loop-i-init
unfolding all_to
loop-i-init c = c.fill.ensures.after (λ y e. e) ∙ sym (listed_const {A = Bool} false (length c.args.marks.now))

pub loop-i-preserved-then-a-b : goal.loop-i-preserved-then-a-b
loop-i-preserved-then-a-b c = c.loop-i.invariant ∙ mark_skip c.args.old.now c.args.labels.now c.loop-i.i (length c.args.marks.now) c.if-a-b.true

pub loop-i-preserved : goal.loop-i-preserved
loop-i-preserved c =
    let a : length c.loop-i.marks ≡ length c.args.marks.now = omega arith in
    let b : length c.mark.new.marks ≡ length c.args.marks.now = omega arith in
    mark_both c.args.old.now c.args.labels.now c.loop-i.i (length c.args.marks.now) c.loop-i.invariant c.if-a-b.false (rw a at c.mark.ensures) (rw b at c.mark-in-loop-i.ensures)
