use mathlib.Core.Path.{◌∙◌}
use Rattle.lloyd_mean.proofs.Means.{scaled}
use Rattle.lloyd_mean.proofs.mean_row.Goals as goal

pub returns : goal.returns
returns c = c.scale.ensures ∙ rw c.count_as_f64.ensures (scaled _ _ _ c.sum_members.ensures)
