use Rattle.std.proofs.Common.{◌*◌, ◌^◌, arith}
use Rattle.sqrt.proofs.Nearby.{of_floor}
use Rattle.sqrt.proofs.rounded_by_digits.Goals as goal

pub returns : goal.returns
returns c = of_floor (c.args.m * 2 ^ 52) c.digits.result (omega arith) (omega arith)
