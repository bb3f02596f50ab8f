use mathlib.Core.Path.{◌∙◌}
use Rattle.refusals.proofs.Laws.{many_rows}
use Rattle.distance_squared.proofs.check_items.Goals as goal

pub returns-then-m-gt256 : goal.returns-then-m-gt256
returns-then-m-gt256 c = c.check.ensures ∙ many_rows _ _ _ _ _ _ _ _ _ c.if-m-gt256.true
