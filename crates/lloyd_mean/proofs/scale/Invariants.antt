use mathlib.Core.Path.{◌≡◌}
use lib.Ieee.{binary64, div, mul}
use Rattle.lists.specs.Lists.{cells}
use Rattle.lists.specs.Sums.{one64}
use Rattle.lists.proofs.Listed.{writes}
use Rattle.lloyd_mean.proofs.scale.Given as goal

abbrev pub invariant-loop-x : goal.invariant-loop-x
invariant-loop-x l = l.out ≡ writes (λ k. mul binary64 (cells l.initial.out k) (div binary64 one64 l.count)) l.x-index l.initial.out
