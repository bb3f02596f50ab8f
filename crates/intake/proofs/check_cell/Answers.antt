use mathlib.Core.Path.{◌∙◌, ◌≡◌, sym}
use mathlib.Core.Bool.{false, true}
use mir.Syntax.{w64}
use mir.ValLaws.{to_z-of_z}
use Rattle.refusals.specs.Table.{whenever}
use Rattle.intake.specs.Intake.{caused, cause_of, in_range, on_diagonal, same_z}
use Rattle.intake.proofs.check_cell.Goals as goal

-- what is passed on is read back from its bits: the same number, since it fits
pub returns-then-not-in_range : goal.returns-then-not-in_range
unfolding caused cause_of whenever
returns-then-not-in_range c =
    let r : in_range c.args.x ≡ false = sym (rw (to_z-of_z w64 c.args.x c.ranges.x) at c.in_range.ensures) ∙ c.if-not-in_range.true in
    rw r

pub returns-then-not-on_diagonal : goal.returns-then-not-on_diagonal
unfolding caused cause_of whenever
returns-then-not-on_diagonal c =
    let r : in_range c.args.x ≡ true = sym (rw (to_z-of_z w64 c.args.x c.ranges.x) at c.in_range.ensures) ∙ c.if-not-in_range.false in
    let d : on_diagonal c.args.x c.args.diagonal ≡ false = sym (rw (to_z-of_z w64 c.args.x c.ranges.x) at c.on_diagonal.ensures) ∙ c.if-not-on_diagonal.true in
    rw (r, d)

pub returns-then-not-same : goal.returns-then-not-same
unfolding caused cause_of whenever
returns-then-not-same c =
    let r : in_range c.args.x ≡ true = sym (rw (to_z-of_z w64 c.args.x c.ranges.x) at c.in_range.ensures) ∙ c.if-not-in_range.false in
    let d : on_diagonal c.args.x c.args.diagonal ≡ true = sym (rw (to_z-of_z w64 c.args.x c.ranges.x) at c.on_diagonal.ensures) ∙ c.if-not-on_diagonal.false in
    let s : same_z c.args.x c.args.y ≡ false = sym (rw (to_z-of_z w64 c.args.x c.ranges.x, to_z-of_z w64 c.args.y c.ranges.y) at c.same.ensures) ∙ c.if-not-same.true in
    rw (r, d, s)

pub returns : goal.returns
unfolding caused cause_of whenever
returns c =
    let r : in_range c.args.x ≡ true = sym (rw (to_z-of_z w64 c.args.x c.ranges.x) at c.in_range.ensures) ∙ c.if-not-in_range.false in
    let d : on_diagonal c.args.x c.args.diagonal ≡ true = sym (rw (to_z-of_z w64 c.args.x c.ranges.x) at c.on_diagonal.ensures) ∙ c.if-not-on_diagonal.false in
    let s : same_z c.args.x c.args.y ≡ true = sym (rw (to_z-of_z w64 c.args.x c.ranges.x, to_z-of_z w64 c.args.y c.ranges.y) at c.same.ensures) ∙ c.if-not-same.false in
    rw (r, d, s)
