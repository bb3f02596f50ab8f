use mathlib.Core.Path.{refl}
use Rattle.distance.specs.Distance.{cell_through}
use Rattle.distance.proofs.cell_at.Goals as goal

pub returns : goal.returns
unfolding cell_through
returns c = refl
