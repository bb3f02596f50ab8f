use Rattle.std.proofs.Common.{ℕ, ◌+◌, ◌≤◌, arith, rules}
use lib.Ieee.{Float}
use Rattle.lists.specs.Lists.{cell_at}
use Rattle.lists.proofs.Matrix.{rows_length, rows_more, rows_none}
use Rattle.lists.proofs.transpose.Goals as goal

pub loop-i-init : goal.loop-i-init
loop-i-init c = (search rules, c.requires.3, c.requires.3, rows_none (λ r j. cell_at c.args.from.now c.args.n j r) c.args.n _)

pub loop-i-preserved : goal.loop-i-preserved
loop-i-preserved c =
    let g : ℕ → ℕ → Float = λ r j. cell_at c.args.from.now c.args.n j r in
    let u : c.loop-i.i + 1 ≤ c.args.n = omega arith in
    let e = rows_more g c.args.n c.loop-i.i _ c.loop-i.invariant.3 c.copy_column.ensures in
    (u, rows_length g c.args.n (c.loop-i.i + 1) _ e u c.loop-i.invariant.2, c.loop-i.invariant.2, e)
