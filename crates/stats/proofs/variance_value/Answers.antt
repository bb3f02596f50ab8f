use mathlib.Core.Path.{◌∙◌}
use Rattle.stats.specs.Average.{variance_of}
use Rattle.stats.proofs.variance_value.Goals as goal

pub returns : goal.returns
unfolding variance_of
returns c = c.variance_about.ensures ∙ rw c.mean_value-m.ensures
