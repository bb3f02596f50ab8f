use Rattle.std.proofs.Common.{refl}
use Rattle.rng_chacha.specs.ChaCha.{start_of}
use Rattle.lists.specs.Lists.{listed}
use Rattle.rng_chacha.proofs.start.Goals as goal

pub returns : goal.returns
unfolding start_of listed
returns c = refl
