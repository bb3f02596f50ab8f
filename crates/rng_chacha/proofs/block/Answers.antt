use Rattle.rng_chacha.specs.ChaCha.{block_of}
use Rattle.rng_chacha.proofs.block.Goals as goal

pub returns : goal.returns
unfolding block_of
returns c = rw (c.sum.ensures, c.double_rounds.ensures)
