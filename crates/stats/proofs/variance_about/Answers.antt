use Rattle.stats.specs.Average.{variance_about}
use Rattle.stats.proofs.variance_about.Goals as goal

pub returns : goal.returns
unfolding variance_about
returns c = rw (c.sum_of_squares.ensures, c.count_as_f64.ensures)
