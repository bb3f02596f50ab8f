use mir.Syntax.{w64}
use mir.ValLaws.{to_z-of_z}
use Rattle.intake.proofs.Whole.{range_above, under_range}
use Rattle.intake.proofs.in_range.Goals as goal

pub returns-then-x-ltminus1000000 : goal.returns-then-x-ltminus1000000
returns-then-x-ltminus1000000 c = under_range c.args.x (rw (to_z-of_z w64 c.args.x c.ranges.x) at c.if-x-ltminus1000000.true)

pub returns : goal.returns
returns c =
    rw (to_z-of_z w64 c.args.x c.ranges.x)
    (range_above c.args.x (rw (to_z-of_z w64 c.args.x c.ranges.x) at c.if-x-ltminus1000000.false))
