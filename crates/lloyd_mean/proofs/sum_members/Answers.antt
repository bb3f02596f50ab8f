use mathlib.Core.Path.{◌∙◌, ◌≡◌, ap}
use native.Mathlib.Omega.{arith}
use lib.ListN.{length}
use lib.Ieee.{of_bits}
use borrow.Author.Tests.{eq-eqb, ne_eqb}
use Rattle.lists.specs.Sums.{in_group}
use Rattle.lists.specs.Lists.{cell_at, numbers}
use Rattle.lists.proofs.Rows.{row_length}
use Rattle.lloyd_mean.proofs.Means.{members_in, members_none, members_out}
use Rattle.lloyd_mean.proofs.sum_members.Goals as goal
use Rattle.lloyd_mean.proofs.sum_members.Goals.{then-x-l, else-x-l}

pub loop-i-init : goal.loop-i-init
unfolding of_bits
loop-i-init c = members_none (in_group (numbers c.args.labels.now) c.args.l) (cell_at c.args.points.now (length c.args.labels.now)) (length c.args.labels.now) (c.fill.ensures.after (λ y e. e)) c.requires.2

pub loop-i-preserved : goal.loop-i-preserved
loop-i-preserved c =
    let m = length c.args.labels.now in
    let h = c.loop-i.invariant in
    elim c.if-x-l.branch [
      | then-x-l w ↦ w.out-is ∙ (rw (ap length w.row_of.ensures ∙ row_length c.args.points.now c.loop-i.i m c.requires.1 c.loop-i-test.true) at w.add_row.ensures)
          ∙ members_in (in_group (numbers c.args.labels.now) c.args.l) c.args.points.now c.loop-i.i m h w.row_of.ensures (eq-eqb _ _ w.if-x-l.true)
      | else-x-l w ↦ w.out-is ∙ members_out _ _ _ _ h (ne_eqb _ _ w.if-x-l.false)
    ]

pub returns : goal.returns
returns c = let e : c.loop-i.i ≡ length c.args.labels.now = omega arith in rw e at c.loop-i.invariant
