use mathlib.Core.Path.{sym, ◌∙◌}
use Rattle.stats.specs.Average.{exact_mean}
use Rattle.stats.proofs.mean_value.Goals as goal

pub returns-then-is_constant : goal.returns-then-is_constant
unfolding exact_mean
returns-then-is_constant c = rw (sym c.is_constant.ensures ∙ c.if-is_constant.true)

pub returns : goal.returns
unfolding exact_mean
returns c = rw (sym c.is_constant.ensures ∙ c.if-is_constant.false, c.sum_of.ensures, c.count_as_f64.ensures)
