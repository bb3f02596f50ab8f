use Rattle.std.proofs.Common.{refl, arith, length-set}
use Rattle.lists.proofs.Listed.{writes, writes_done, writes_one}
use Rattle.rng_chacha.specs.Four.{lane_of}
use Rattle.rng_chacha.proofs.lane_of.Goals as goal

pub loop-j-init : goal.loop-j-init
unfolding writes
loop-j-init c = (c.buffer-t.ensures, refl)

pub loop-j-preserved : goal.loop-j-preserved
loop-j-preserved c =
    let v = c.loop-j.invariant in
    (simp length-set v.0, writes_one _ _ _ v.1 refl)

pub returns : goal.returns
unfolding lane_of
returns c = writes_done 0 _ _ _ _ c.loop-j.invariant.1 (omega arith) c.buffer-t.ensures
