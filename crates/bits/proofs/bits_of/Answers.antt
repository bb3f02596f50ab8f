use Rattle.lists.proofs.Floats.{number}
use Rattle.bits.proofs.Patterns.{bits_nan}
use Rattle.bits.proofs.bits_of.Goals as goal

pub returns-then-x : goal.returns-then-x
returns-then-x c = bits_nan c.args.x c.if-x.true

pub float_to_bits-result : goal.float_to_bits-result
float_to_bits-result c = number c.args.x c.if-x.false
