use Rattle.std.proofs.Common.{arith}
use Rattle.draws.proofs.Bounds.{bounds_end}
use Rattle.draws.proofs.draws_for.Goals as goal

pub returns : goal.returns
returns c =
    omega (arith, bounds_end c.args.m c.groups_end-most.result c.groups_end-most.ensures)
