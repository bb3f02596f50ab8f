use mathlib.Core.Path.{◌≡◌}
use lib.ListN.{length}
use Rattle.lists.specs.Lists.{cells, numbers}
use Rattle.lists.proofs.Listed.{writes}
use Rattle.quality.proofs.gather.Given as goal

abbrev pub invariant-loop-j : goal.invariant-loop-j
invariant-loop-j l = (length l.out ≡ length l.members) × (l.out ≡ writes (λ k. cells l.scores (numbers l.members k)) l.j l.initial.out)
