use Rattle.rng_std.proofs.Chunks.{key_part}
use Rattle.rng_std.proofs.key_in.Goals as goal

pub returns : goal.returns
returns c = key_part c.args.rng.now c.requires c.copy_from_slice.ensures.after
