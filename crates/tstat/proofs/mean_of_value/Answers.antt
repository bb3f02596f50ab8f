use Rattle.tstat.specs.Tstat.{plain_mean}
use Rattle.tstat.proofs.mean_of_value.Goals as goal

pub returns : goal.returns
unfolding plain_mean
returns c = rw (c.sum_of.ensures, c.count_as_f64.ensures)
