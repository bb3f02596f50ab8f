use Rattle.std.proofs.Common.{◌≡◌, leb}
use Rattle.lists.specs.Lists.{numbers, first_to}
use Rattle.lists.proofs.first_from.Given as goal

abbrev pub invariant-loop-k : goal.invariant-loop-k
invariant-loop-k l = first_to (λ j. leb l.limit (numbers l.xs j)) l.k ≡ l.k
