use lib.Ieee.{of_bits}
use Rattle.stats.specs.Average.{variance_of}
use Rattle.tstat.specs.Tstat.{tstat_of}
use Rattle.tstat.proofs.tstat_value.Goals as goal

pub returns-then-is_empty : goal.returns-then-is_empty
unfolding tstat_of of_bits
returns-then-is_empty c = let e = c.if-is_empty.ensures in rw (← e)

pub returns : goal.returns
unfolding tstat_of variance_of
returns c = let e = c.if-is_empty.ensures in rw (← e) (simp (c.ratio.ensures, c.sqrt.ensures, c.variance_about-v.ensures, c.mean_value-m.ensures))
