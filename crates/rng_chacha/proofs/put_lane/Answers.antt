use Rattle.std.proofs.Common.{arith, rules}
use Rattle.rng_chacha.proofs.Lanes.{storing_done, storing_more, storing_none}
use Rattle.rng_chacha.proofs.put_lane.Goals as goal

pub loop-j-init : goal.loop-j-init
loop-j-init c = storing_none _ _ _ c.requires.0 c.requires.1 (search rules)

pub loop-j-preserved : goal.loop-j-preserved
loop-j-preserved c = storing_more c.loop-j.invariant (omega arith)

pub returns : goal.returns
returns c = storing_done c.loop-j.invariant (omega arith)
