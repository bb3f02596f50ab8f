use Rattle.bits.proofs.Patterns.{not_above, above}
use Rattle.bits.proofs.double_of.Goals as goal

pub returns-then-bits-gt9218868437227405312 : goal.returns-then-bits-gt9218868437227405312
returns-then-bits-gt9218868437227405312 c = above c.args.bits c.if-bits-gt9218868437227405312.true

pub float_from_bits-result : goal.float_from_bits-result
float_from_bits-result c = not_above c.args.bits c.if-bits-gt9218868437227405312.false
