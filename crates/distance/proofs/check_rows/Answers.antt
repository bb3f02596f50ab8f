use mathlib.Core.Path.{◌∙◌}
use Rattle.refusals.proofs.Laws.{fits_asked}
use Rattle.distance.proofs.check_rows.Goals as goal

pub returns : goal.returns
returns c = c.check.ensures ∙ rw c.first_from-bad.ensures (fits_asked _ _ _ _ _ _ _ c.is_square-fits.ensures.0)
