use Rattle.rng_chacha.specs.ChaCha.{half_of}
use Rattle.rng_chacha.proofs.half_round.Goals as goal

pub returns : goal.returns
unfolding half_of
returns c = rw (c.rotate_left-b.ensures, c.rotate_left-d.ensures)
