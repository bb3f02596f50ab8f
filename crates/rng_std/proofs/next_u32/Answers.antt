use Rattle.std.proofs.Common.{◌∙◌, arith}
use Rattle.rng_std.proofs.Chunks.{moved_over, moved_within, word_is}
use Rattle.rng_std.proofs.next_u32.Goals as goal

pub returns-then-at-lt63 : goal.returns-then-at-lt63
returns-then-at-lt63 c = (word_is c.args.taken c.args.rng.now c.requires.0, moved_within c.args.taken c.args.rng.now c.requires.0 c.if-at-lt63.true)

pub returns : goal.returns
returns c = (word_is c.args.taken c.args.rng.now c.requires.0, moved_over c.args.taken c.args.rng.now _ (c.refill.auto.rng ∙ c.requires.0.long) (omega (arith, c.if-at-lt63.false)) c.refill.ensures)
