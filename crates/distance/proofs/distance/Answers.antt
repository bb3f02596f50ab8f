use mathlib.Core.Path.{◌∙◌}
use lib.Ieee.{of_bits}
use Rattle.distance.specs.Distance.{distance_of}
use Rattle.distance.proofs.distance.Goals as goal

pub returns : goal.returns
unfolding distance_of of_bits
returns c = c.sqrt.ensures ∙ rw c.clamp.ensures
