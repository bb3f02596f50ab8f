use Rattle.rng_std.proofs.Drawing.{share_two}
use Rattle.rng_std.proofs.random_share.Goals as goal

pub returns : goal.returns
returns c = share_two c.args.taken c.args.rng.now _ c.next_u32-first.ensures.0 c.next_u32-first.ensures.1 _ c.next_u32-second.ensures.0 c.next_u32-second.ensures.1
