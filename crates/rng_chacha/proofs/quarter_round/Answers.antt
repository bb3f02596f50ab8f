use Rattle.rng_chacha.specs.ChaCha.{quarter_of}
use Rattle.rng_chacha.proofs.quarter_round.Goals as goal

pub returns : goal.returns
unfolding quarter_of
returns c = rw (c.half_round-2.ensures, c.half_round.ensures)
