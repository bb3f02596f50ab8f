use mathlib.Core.Path.{◌≡◌}
use Rattle.distance.specs.Distance.{distance_of}
use Rattle.lists.specs.Lists.{cells}
use Rattle.lists.proofs.Listed.{writes}
use Rattle.distance.proofs.distances_of.Given as goal

abbrev pub invariant-loop-t : goal.invariant-loop-t
invariant-loop-t l = l.out ≡ writes (λ k. distance_of (cells l.book k)) l.t l.initial.out
