use Rattle.std.proofs.Common.{refl, arith, length-set, rules}
use Rattle.rng_chacha.specs.ChaCha.{summed}
use Rattle.lists.proofs.Listed.{writes, writes_done, writes_one}
use Rattle.rng_chacha.proofs.sum.Goals as goal

pub loop-i-init : goal.loop-i-init
unfolding writes
loop-i-init c = (search rules, search rules, refl)

pub loop-i-preserved : goal.loop-i-preserved
loop-i-preserved c = (simp length-set (search rules), search rules, writes_one _ _ _ c.loop-i.invariant.2 refl)

pub returns : goal.returns
unfolding summed
returns c = writes_done 0 _ _ _ _ c.loop-i.invariant.2 (omega arith) c.loop-i.invariant.1
