use lib.Ieee.{of_bits}
use Rattle.tstat.specs.Tstat.{ratio}
use Rattle.tstat.proofs.ratio.Goals as goal

pub returns-then-m : goal.returns-then-m
unfolding ratio of_bits
returns-then-m c = rw (c.if-s.true, c.if-m.true) c.infinity.ensures

pub returns-then-s : goal.returns-then-s
unfolding ratio of_bits
returns-then-s c = rw (c.if-s.true, c.if-m.false)

pub returns : goal.returns
unfolding ratio
returns c = rw c.if-s.false
