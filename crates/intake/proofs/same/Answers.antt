use Rattle.intake.proofs.Whole.{same_bits}
use Rattle.intake.proofs.same.Goals as goal

pub returns : goal.returns
returns c = same_bits c.args.x c.args.y c.ranges.x c.ranges.y
