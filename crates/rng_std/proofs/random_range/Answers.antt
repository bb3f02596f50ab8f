use Rattle.rng_std.proofs.Drawing.{index_one, index_two}
use Rattle.rng_std.proofs.random_range.Goals as goal

pub returns-then-lower-n : goal.returns-then-lower-n
returns-then-lower-n c = index_one c.args.taken c.args.rng.now _ c.next_u32-first.ensures.0 c.next_u32-first.ensures.1 c.args.n c.if-lower-n.true

pub returns : goal.returns
returns c = index_two c.args.taken c.args.rng.now _ c.next_u32-first.ensures.0 c.next_u32-first.ensures.1 _ c.next_u32-second.ensures.0 c.next_u32-second.ensures.1 c.args.n c.if-lower-n.false c.carry.ensures.0
