use Rattle.std.proofs.Common.{rules}
use Rattle.rng_std.proofs.Chunks.{key_put}
use Rattle.rng_std.proofs.put_key.Goals as goal

pub returns : goal.returns
returns c = key_put c.args.key c.args.rng.now c.requires (search rules) c.copy_from_slice.ensures.after
