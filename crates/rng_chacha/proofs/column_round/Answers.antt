use Rattle.std.proofs.Common.{rules}
use Rattle.rng_chacha.proofs.Rounds.{columns_are}
use Rattle.rng_chacha.proofs.column_round.Goals as goal

pub returns : goal.returns
returns c = rw (c.quarter_of-q3.ensures, c.quarter_of-q2.ensures, c.quarter_of-q1.ensures, c.quarter_of-q0.ensures) (columns_are c.args.s (search rules))
