use Rattle.std.proofs.Common.{arith}
use Rattle.sqrt.proofs.Value.{bits_no_nan}
use Rattle.sqrt.proofs.Cases.{no_nan}
use Rattle.sqrt.proofs.estimate.Goals as goal

pub float_from_bits-x : goal.float_from_bits-x
float_from_bits-x c = bits_no_nan _ (omega arith) (omega arith)

pub float_from_bits-y : goal.float_from_bits-y
float_from_bits-y c = bits_no_nan _ (omega arith) (omega arith)

pub float_to_bits-r : goal.float_to_bits-r
float_to_bits-r c = no_nan c.near_root-s.result c.if-s.false
