use Rattle.std.proofs.Common.{◌≡◌, arith}
use Rattle.rng_chacha.proofs.Fours.{blocks_done}
use Rattle.rng_chacha.proofs.sum_lanes.Goals as goal

pub returns : goal.returns
returns c =
    let e : c.loop-b.b ≡ 4 = omega arith in
    blocks_done _ c.loop-b.out (rw e at c.loop-b.invariant.1) c.loop-b.invariant.0
