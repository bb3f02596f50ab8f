use Rattle.std.proofs.Common.{refl, add-one}
use Rattle.rng_chacha.specs.ChaCha.{rounds_of}
use Rattle.rng_chacha.proofs.double_rounds.Goals as goal

pub loop-init : goal.loop-init
unfolding rounds_of
loop-init c = refl

pub loop-preserved : goal.loop-preserved
unfolding rounds_of
loop-preserved c = rw (c.diagonal_round-t.ensures, c.column_round.ensures, add-one, c.loop.invariant)
