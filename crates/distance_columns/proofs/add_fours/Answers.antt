use Prim.Native.Nat.{◌*◌, ◌+◌, ◌-◌, ◌<◌, ℕ}
use mathlib.Core.Path.{◌∙◌, ◌≡◌}
use native.Mathlib.Omega.{arith}
use lib.ListN.{length}
use Rattle.lists.specs.Lists.{part}
use Rattle.distance_columns.proofs.Steps.{column_length, four_added}
use Rattle.distance_columns.proofs.add_fours.Goals as goal

pub add_four-requires : goal.add_four-requires
add_four-requires c =
    let s = c.requires.tail in
    let t = c.loop-c-test.true in
    let n : length c.args.own.now - c.args.from ≡ length c.loop-c.sums = omega arith in
    let long : (k : ℕ) → k < length c.args.own.now → length (part (k * length c.args.own.now + c.args.from) (length c.args.own.now - c.args.from) c.args.across.now) ≡ length c.loop-c.sums = λ k h. column_length c.args.own.now c.args.across.now c.args.from s.square s.within k h ∙ n in (
      rw c.column_of.ensures (long _ (omega arith)),
      rw c.column_of-in-loop-c.ensures (long _ (omega arith)),
      rw c.column_of-in-loop-c-2.ensures (long _ (omega arith)),
      rw c.column_of-in-loop-c-3.ensures (long _ (omega arith)),
    )

pub loop-c-preserved : goal.loop-c-preserved
loop-c-preserved c =
    (omega (arith, c.loop-c-test.true), c.add_four.ensures ∙ four_added c.args.own.now c.args.across.now c.args.from c.loop-c.c c.loop-c.invariant.1 c.column_of.ensures c.column_of-in-loop-c.ensures c.column_of-in-loop-c-2.ensures c.column_of-in-loop-c-3.ensures)
