use lib.Ieee.{neg, of_bits}
use Rattle.distance.specs.Distance.{clamped}
use Rattle.distance.proofs.clamp.Goals as goal

pub returns-then-c : goal.returns-then-c
unfolding clamped of_bits neg
returns-then-c c = rw c.if-c.true

pub returns-then-c-2 : goal.returns-then-c-2
unfolding clamped of_bits neg
returns-then-c-2 c = rw (c.if-c.false, c.if-c-2.true)

pub returns : goal.returns
unfolding clamped of_bits neg
returns c = rw (c.if-c.false, c.if-c-2.false)
